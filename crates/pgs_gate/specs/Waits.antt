-- The writes that wait for the open chunk to close, in the order in which they came.
use Rattle.std.specs.Prelude.{◌≡◌, ◌≢◌, ◌<◌, ◌≤◌, ◌&&◌, Bool, nat_eq, List, [], ◌∷◌, ◌++◌, length, Option, Some, None, Result, Ok, Err}
use Rattle.std.specs.List.{list_any, AllPairs}
use Rattle.pgs_request.specs.declared.req_id.ReqId.{ReqId}
use Rattle.pgs_op.specs.declared.write.Write.{Write}
use Rattle.pgs_gate.specs.declared.limits.TheConstants.{MOST_PARKED}
use Rattle.pgs_gate.specs.declared.park_error.ParkError.{ParkError}
use Rattle.pgs_gate.specs.declared.park_error.ParkError.TheVariants.{QueueFull, Memory}

-- whether two requests have one id
abbrev pub same_id : ReqId → ReqId → Bool
same_id a b = nat_eq a.client b.client && nat_eq a.serial b.serial

-- whether a write of this request is parked
abbrev pub is_parked : List Write → ReqId → Bool
is_parked writes id = list_any (λ write. same_id write.id id) writes

-- no request is parked twice: an earlier and a later write have different ids
abbrev pub AreDistinct : List Write → Type 0
AreDistinct writes = AllPairs (λ earlier later. earlier.id ≢ later.id) writes

-- what holds of parked writes
pub record IsKept (writes : List Write) : Type 0 where
  pub within : length writes ≤ MOST_PARKED
  pub distinct : AreDistinct writes

-- What parking a write answers, and what is parked then. The queue is full exactly where the most writes are parked already; else the write comes
-- last, unless memory runs out. Where it isn't parked, all is as before.
abbrev pub IsParked : Result Unit ParkError → List Write → List Write → Write → Type 0
IsParked (Ok done) old new write = (length old < MOST_PARKED) × (new ≡ old ++ write ∷ [])
IsParked (Err (QueueFull count)) old new write = (length old ≡ MOST_PARKED) × (count ≡ MOST_PARKED) × (new ≡ old)
IsParked (Err Memory) old new write = (length old < MOST_PARKED) × (new ≡ old)

-- What taking the first write answers: the oldest, which leaves, and nothing where none is parked.
abbrev pub IsTaken : Option Write → List Write → List Write → Type 0
IsTaken None old new = (old ≡ []) × (new ≡ [])
IsTaken (Some first) old new = old ≡ first ∷ new
