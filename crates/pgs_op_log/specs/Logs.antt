-- A log: its items and the requests that they came from, the newest first.
use Rattle.std.specs.Prelude.{ℕ, ◌≡◌, ◌+◌, ◌≤◌, ◌<◌, ◌&&◌, Bool, nat_eq, nat_lt, max, if◌then◌else◌, List, [], ◌∷◌, length, Option, Some, None, Result, Ok, Err}
use Rattle.pgs_request.specs.declared.req_id.ReqId.{ReqId}
use Rattle.pgs_request.specs.declared.version.Version.{Version}
use Rattle.pgs_range.specs.Ranges.{in_range}
use Rattle.pgs_range.specs.declared.family_range.FamilyRange.{FamilyRange}
use Rattle.pgs_op.specs.declared.limits.TheConstants.{LOG_MAX}
use Rattle.pgs_medium.specs.declared.item.Item.{Item}
use Rattle.pgs_op_log.specs.declared.log_error.LogError.{LogError}
use Rattle.pgs_op_log.specs.declared.log_error.LogError.TheVariants.{LogFull, Memory}

-- what a log is seen as: its items and requests, the newest first, the bytes that it counts, and how many items can be appended without memory
pub record Log : Type 0 where
  pub items : List Item
  pub ids : List (ReqId × Version)
  pub bytes : ℕ
  pub room : ℕ

-- the items' numbers are 1, 2 and so on, without gaps
abbrev pub AreNumbered : List Item → Type 0
AreNumbered [] = Unit {0}
AreNumbered (item ∷ items) = (item.number ≡ length items + 1) × AreNumbered items

-- whether two requests have one id
abbrev pub same_id : ReqId → ReqId → Bool
same_id a b = nat_eq a.client b.client && nat_eq a.serial b.serial

-- the version of the item that a request made, if it made one
abbrev pub version_in : List (ReqId × Version) → ReqId → Option Version
version_in [] id = None
version_in (entry ∷ entries) id = if same_id entry.0 id then Some entry.1 else version_in entries id

-- the version of an item
abbrev pub version_of_item : Item → Version
version_of_item item = record { epoch = item.epoch; number = item.number }

-- one more request, where the item came from one
abbrev pub with_id : Option ReqId → Version → List (ReqId × Version) → List (ReqId × Version)
with_id None version ids = ids
with_id (Some id) version ids = (id, version) ∷ ids

-- the items with higher numbers than `from`
abbrev pub newer : ℕ → List Item → List Item
newer from [] = []
newer from (item ∷ items) = if nat_lt from item.number then item ∷ newer from items else []

-- an item has a higher number than `from`
abbrev pub is_above : ℕ → Item → Bool
is_above from item = nat_lt from item.number

-- the number of the newest item of a family in the range, and 0 where there is none
abbrev pub newest_in : FamilyRange → List Item → ℕ
newest_in range [] = 0
newest_in range (item ∷ items) = if in_range range item.family then item.number else newest_in range items

-- the greatest number of an item of a family in the range, and 0 where there is none
abbrev pub greatest_in : FamilyRange → List Item → ℕ
greatest_in range [] = 0
greatest_in range (item ∷ items) = max (if in_range range item.family then item.number else 0) (greatest_in range items)

-- two logs are the same but for their room
pub record AreAlike (a b : Log) : Type 0 where
  pub items : b.items ≡ a.items
  pub ids : b.ids ≡ a.ids
  pub bytes : b.bytes ≡ a.bytes

-- what appending an item answers: the log is full exactly where it would count too many bytes, and memory runs out only where there is no room
abbrev pub IsAppended : Result Unit LogError → Log → ℕ → Type 0
IsAppended (Ok done) old bytes = bytes ≤ LOG_MAX
IsAppended (Err (LogFull n)) old bytes = (n ≡ bytes) × (LOG_MAX < bytes)
IsAppended (Err Memory) old bytes = (old.room ≡ 0) × (bytes ≤ LOG_MAX)
