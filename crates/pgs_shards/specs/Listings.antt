-- Listing a member's positions.
use Rattle.std.specs.Prelude.{ℕ, zero, suc, List, [], ◌∷◌, Option, Some, None, option_map, if◌then◌else◌}
use Rattle.pgs_chunk.specs.Listings.{listing}
use Rattle.pgs_medium.specs.Calls.{one_more}
use Rattle.pgs_medium.specs.declared.call_kind.CallKind.TheVariants as kinds
use Rattle.pgs_name.specs.declared.object_id.ObjectId.{ObjectId}
use Rattle.pgs_range.specs.declared.bound.Bound.{Bound}
use Rattle.pgs_shard.specs.Listed.{calls_for}
use Rattle.pgs_shard_history.specs.Positions.{positions}
use Rattle.pgs_shard_history.specs.declared.event.Event.TheVariants.{ListFailed}
use Rattle.pgs_shards.specs.Devices.{DeviceCalls, fails, answered, answered_all, failed}
use Rattle.pgs_shards.specs.Members.{Member, of_member, with_member}
use Rattle.pgs_shards.specs.declared.list_answer.ListAnswer.{ListAnswer}
use Rattle.pgs_shards.specs.declared.list_answer.ListAnswer.TheVariants as answers

-- how many listings a device answers before one that fails, of so many: none where none of them fails
abbrev pub first_failing : ℕ → DeviceCalls → Option ℕ
first_failing zero device = None
first_failing (suc calls) device = if fails kinds.List device then Some zero else option_map (λ n. suc n) (first_failing calls (answered kinds.List device))

-- the positions that are listed, where no listing fails
abbrev pub listing_of : ℕ → Bound → Member → List ObjectId
listing_of limit start member = listing limit start (positions member.past)

-- after how many listings one fails, if one does
abbrev pub failing_of : ℕ → Bound → Member → Option ℕ
failing_of limit start member = first_failing (calls_for limit (listing_of limit start member)) member.device

abbrev pub list_told : Option ℕ → ℕ → Bound → Member → ListAnswer
list_told None limit start member = answers.Listed (listing_of limit start member)
list_told (Some calls) limit start member = answers.Fault (one_more member.device.faults)

-- what a member answers that lists its positions from a bound on: they, or how many faults its device counts
abbrev pub list_answer : ℕ → Bound → Member → ListAnswer
list_answer limit start member = list_told (failing_of limit start member) limit start member

abbrev pub listed_by : Option ℕ → ℕ → Bound → Member → Member
listed_by None limit start member = record member { device = answered_all kinds.List (calls_for limit (listing_of limit start member)) member.device }
listed_by (Some calls) limit start member = record member { past = ListFailed (one_more member.device.faults) ∷ member.past; device = failed kinds.List (answered_all kinds.List calls member.device) }

-- a member after it: a failed listing is kept
abbrev pub after_list : ℕ → Bound → Member → Member
after_list limit start member = listed_by (failing_of limit start member) limit start member

-- of an OSD: one that is no member has no positions
abbrev pub list_in : ℕ → Bound → List Member → ℕ → ListAnswer
list_in limit start members osd = of_member (list_answer limit start) (answers.Listed []) members osd

abbrev pub with_listed : ℕ → Bound → ℕ → List Member → List Member
with_listed limit start osd members = with_member osd (after_list limit start) members
