-- What holds of every legal history of a group.
use Rattle.std.specs.Prelude.{ℕ, ◌≡◌, nat_le, List, [], ◌∷◌, None, count_by, if◌then◌else◌}
use Rattle.pgs_request.specs.declared.req_id.ReqId.{ReqId}
use Rattle.pgs_request.specs.declared.version.Version.{Version}
use Rattle.pgs_medium.specs.declared.item.Item.{Item}
use Rattle.pgs_op_log.specs.Logs.{same_id, version_in}

-- no id stands twice
abbrev pub AreDistinct : List (ReqId × Version) → Type 0
AreDistinct [] = Unit {0}
AreDistinct (entry ∷ entries) = (version_in entries entry.0 ≡ None) × AreDistinct entries

-- how often an id stands among these
abbrev pub times : List (ReqId × Version) → ReqId → ℕ
times entries id = count_by (λ entry. same_id entry.0 id) entries

-- the items up to a number
abbrev pub upto : ℕ → List Item → List Item
upto number [] = []
upto number (item ∷ items) = if nat_le item.number number then item ∷ items else upto number items
