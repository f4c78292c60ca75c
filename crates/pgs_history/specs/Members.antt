-- How far the members of a group are, by its events, the newest first.
use Rattle.std.specs.Prelude.{ℕ, ◌==◌, ◌||◌, Bool, false, max, List, [], ◌∷◌, Option, Some, None, if◌then◌else◌}
use Rattle.pgs_request.specs.declared.req_id.ReqId.{ReqId}
use Rattle.pgs_op_log.specs.Logs.{same_id}
use Rattle.pgs_history.specs.declared.event.Event.{Event}
use Rattle.pgs_history.specs.declared.event.Event.TheVariants.{Collect, Pull, Tell}

abbrev pub pulled_after : Event → ℕ → ℕ → ℕ
pulled_after (Pull other from to asked) osd count = if other == osd then max count to else count
pulled_after event osd count = count

-- the number up to which an OSD pulled the log: the greatest that it was given, or 0
abbrev pub pulled : List Event → ℕ → ℕ
pulled [] osd = 0
pulled (event ∷ past) osd = pulled_after event osd (pulled past osd)

abbrev pub raised : ℕ → Option ℕ → ℕ
raised count None = count
raised count (Some chunk) = max count chunk

abbrev pub asked_after : Event → ℕ → ℕ → ℕ
asked_after (Pull other from to chunk) osd count = if other == osd then raised count chunk else count
asked_after event osd count = count

-- the number of the newest chunk that an OSD was asked for, or 0
abbrev pub asked : List Event → ℕ → ℕ
asked [] osd = 0
asked (event ∷ past) osd = asked_after event osd (asked past osd)

abbrev pub told_after : Event → ℕ → ℕ → ℕ
told_after (Tell other applied) osd count = if other == osd then max count applied else count
told_after event osd count = count

-- the number up to which an OSD told that it applied the log: the greatest that it told, or 0
abbrev pub told : List Event → ℕ → ℕ
told [] osd = 0
told (event ∷ past) osd = told_after event osd (told past osd)

abbrev pub collected_after : Event → ReqId → Bool → Bool
collected_after (Collect other version) id before = same_id other id || before
collected_after event id before = before

-- whether a client learned already that this write is acknowledged
abbrev pub collected : List Event → ReqId → Bool
collected [] id = false
collected (event ∷ past) id = collected_after event id (collected past id)
