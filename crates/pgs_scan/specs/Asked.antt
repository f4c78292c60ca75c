-- What one call of a device about a copy that is there answers and leaves.
use Rattle.std.specs.Prelude.{ℕ, ◌-◌, ◌≡◌, true, false, List, length, Option, Some, None, option_map, slice_get, Result, Ok, Err}
use Rattle.pgs_copy.specs.Pairs.{Pairs}
use Rattle.pgs_medium.specs.Device.{Device}
use Rattle.pgs_medium.specs.declared.call_kind.CallKind.{CallKind}
use Rattle.pgs_scan.specs.Calls.{IsCalled}

-- a value, or nothing where the call failed
abbrev pub IsAnswer : {A : Type 0} → CallKind → Option A → Device → Option A → Device → Type 0
IsAnswer kind expected old (Some value) new = IsCalled kind false old new × (Some value ≡ expected)
IsAnswer kind expected old None new = IsCalled kind true old new

-- without memory nothing changes
abbrev pub IsAsked : {A E : Type 0} → CallKind → Option A → Device → Result (Option A) E → Device → Type 0
IsAsked kind expected old (Ok answer) new = IsAnswer kind expected old answer new
IsAsked kind expected old (Err _) new = new ≡ old

-- the last key of pairs
abbrev pub last_key : Pairs → Option (List ℕ)
last_key pairs = option_map (λ p. p.0) (slice_get pairs (length pairs - 1))
