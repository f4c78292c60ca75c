-- What passes is of what was asked for.
use Rattle.std.proofs.Common.{◌≡◌, ◌==◌, ℕ, Bool, true, false, not, cond, Option, Some, None, Result, Ok, Err, refl, sym, ap, ◌∙◌, arith}
use Rattle.std.specs.Prelude.{nat_lt, IfOk}
use Rattle.std.proofs.lemmas.Bool.Decides.{nat_tests}
use Rattle.pgs_chunk.specs.declared.ask.Ask.{Ask}
use Rattle.pgs_map.specs.declared.scrub_map.ScrubMap.{ScrubMap}
use Rattle.pgs_map_encoding.specs.Maps.{read_map}
use Rattle.pgs_name.proofs.Families.{same_family_is}
use Rattle.pgs_range.specs.Ends.{same_bound}
use Rattle.pgs_range.specs.declared.bound.Bound.{Bound}
use Rattle.pgs_range.specs.declared.bound.Bound.TheVariants.{Min, At, Max}
use Rattle.pgs_exchange.specs.Checked.{FROM_AT, CHUNK_AT, to_at, other_at, text_in, unless_other, of_ask, checked, Checks, IsOfAsk}
use Rattle.pgs_exchange.specs.declared.deposit.Deposit.{Deposit}
use Rattle.pgs_exchange.specs.declared.deposit_error.DepositError.{DepositError}
use Rattle.pgs_exchange.specs.declared.deposit_error.DepositError.TheVariants as errors

bound_is : (a b : Bound) → same_bound a b ≡ true → a ≡ b
bound_is Min Min e = refl
bound_is Min (At g) e = cc
bound_is Min Max e = cc
bound_is (At f) Min e = cc
bound_is (At f) (At g) e = ap At (same_family_is f g e)
bound_is (At f) Max e = cc
bound_is Max Min e = cc
bound_is Max (At g) e = cc
bound_is Max Max e = refl

equal_is : (a b : ℕ) → (a == b) ≡ true → a ≡ b
equal_is a b e = grind (arith, nat_tests)

-- nothing differs
abbrev AreSame : Bool → Bool → Bool → Type 0
AreSame chunk from to = (chunk ≡ true) × (from ≡ true) × (to ≡ true)

all_same : (chunk from to : Bool) (a b c : ℕ) → cond (not chunk) (Some a) (cond (not from) (Some b) (cond (not to) (Some c) None)) ≡ None → AreSame chunk from to
all_same true true true a b c e = (refl, refl, refl)
all_same true true false a b c e = cc
all_same true false to a b c e = cc
all_same false from to a b c e = cc

none_other : (ask : Ask) (map : ScrubMap) → other_at ask map ≡ None → IsOfAsk (Some ask) map
none_other ask map e =
    let s = all_same (map.chunk == ask.chunk) (same_bound map.range.from ask.range.from) (same_bound map.range.to ask.range.to) CHUNK_AT FROM_AT (to_at map) e in
    (equal_is map.chunk ask.chunk s.0, λ i. record { from = bound_is map.range.from ask.range.from s.1 i; to = bound_is map.range.to ask.range.to s.2 i })

passed : (ask : Ask) (map found : ScrubMap) (at : Option ℕ) → other_at ask found ≡ at → unless_other found at ≡ Ok map → IsOfAsk (Some ask) map
passed ask map found None none e =
    let is : found ≡ map = cc in
    none_other ask map (ap (other_at ask) (sym is) ∙ none)
passed ask map found (Some at) other e = cc

of_read : (ask : Ask) (map : ScrubMap) (read : Result ScrubMap ℕ) → of_ask ask read ≡ Ok map → IsOfAsk (Some ask) map
of_read ask map (Ok found) e = passed ask map found (other_at ask found) refl e
of_read ask map (Err at) e = cc

against : (ask : Ask) (deposit : Deposit) (map : ScrubMap) (chunk early : Bool)
    → cond (not chunk) (Err (errors.Stale (Some ask.chunk))) (cond early (Err (errors.Early deposit.applied ask.needed)) (of_ask ask (read_map (text_in deposit.found)))) ≡ Ok map
    → IsOfAsk (Some ask) map
against ask deposit map true false e = of_read ask map (read_map (text_in deposit.found)) e
against ask deposit map true true e = cc
against ask deposit map false early e = cc

due_of : (asked : Option Ask) (deposit : Deposit) (map : ScrubMap) → checked asked deposit ≡ Ok map → IsOfAsk asked map
due_of None deposit map e = cc
due_of (Some ask) deposit map e = against ask deposit map (deposit.chunk == ask.chunk) (nat_lt deposit.applied ask.needed) e

pub asked_of : (asked : Option Ask) (deposit : Deposit) (answer : Result ScrubMap DepositError) → Checks answer (checked asked deposit) → IfOk answer (λ map. IsOfAsk asked map)
asked_of asked deposit (Ok map) is = due_of asked deposit map is
asked_of asked deposit (Err e) is = tt
