-- The table of refusals in its two parts, and what isn't refused.
use Rattle.std.proofs.Common.{ℕ, ◌≡◌, ◌≤◌, ◌+◌, Bool, true, false, [], ◌∷◌, Option, Some, None, refl, sym, ap, ◌∙◌, arith}
use Rattle.std.specs.Prelude.{nat_lt}
use Rattle.std.proofs.lemmas.Bool.Decides.{nat_tests}
use Rattle.std.specs.Bool.{then_some}
use Rattle.pgs_name.specs.declared.object_id.TheConstants.{HEAD}
use Rattle.pgs_copy.specs.declared.obj_copy.ObjCopy.{ObjCopy}
use Rattle.pgs_request.specs.Ops.{payload_size}
use Rattle.pgs_request.specs.declared.answers.Refusal.{Refusal}
use Rattle.pgs_request.specs.declared.answers.Refusal.TheVariants.{StoreFull, LogFull}
use Rattle.pgs_request.specs.declared.op.Op.{Op}
use Rattle.pgs_request.specs.declared.version.Version.{Version}
use Rattle.pgs_op.specs.Heads.{head_of}
use Rattle.pgs_op.specs.Held.{held_after}
use Rattle.pgs_op.specs.Refusals.{refusal_of, effects_on, first}
use Rattle.pgs_op.specs.Rows.{by_head, by_bounds}
use Rattle.pgs_op.specs.declared.limits.TheConstants.{STORE_MAX, LOG_MAX}
use Rattle.pgs_op.specs.declared.head.Head.{Head}
use Rattle.pgs_op.specs.declared.write.Write.{Write}

-- four rows are two and two
found_first : {A : Type 0} (a b c d : Option A) (answer : A) → first (a ∷ b ∷ []) ≡ Some answer → first (a ∷ b ∷ c ∷ d ∷ []) ≡ Some answer
found_first (Some x) b c d answer is = is
found_first None (Some x) c d answer is = is
found_first None None c d answer is = absurd cc

found_then : {A : Type 0} (a b c d answer : Option A) → first (a ∷ b ∷ []) ≡ None → first (c ∷ d ∷ []) ≡ answer → first (a ∷ b ∷ c ∷ d ∷ []) ≡ answer
found_then None None c d answer none is = is
found_then None (Some x) c d answer none is = absurd cc
found_then (Some x) b c d answer none is = absurd cc

module _ (held : ℕ) (copies : ℕ → Option ObjCopy) (log_bytes : ℕ) (write : Write) (version : Version) where
  pub refused_by_head : (refusal : Refusal) → by_head (head_of (copies HEAD)) write.op ≡ Some refusal → refusal_of held copies log_bytes write version ≡ Some refusal
  unfolding refusal_of
  refused_by_head refusal is = found_first _ _ _ _ refusal is

  -- the same of a head that was found
  pub refused_of_head : (head : Head) (refusal : Refusal) → head ≡ head_of (copies HEAD) → by_head head write.op ≡ Some refusal → refusal_of held copies log_bytes write version ≡ Some refusal
  refused_of_head head refusal found is = refused_by_head refusal (ap (λ h. by_head h write.op) (sym found) ∙ is)

  pub refused_by_bounds : (answer : Option Refusal) → by_head (head_of (copies HEAD)) write.op ≡ None
      → by_bounds (held_after held (effects_on copies write version) copies) log_bytes write.op ≡ answer → refusal_of held copies log_bytes write version ≡ answer
  unfolding refusal_of
  refused_by_bounds answer none is = found_then _ _ _ _ answer none is

-- ---- what isn't refused is within the bounds

first_fails : {A : Type 0} (t : Bool) (x : A) (b : Option A) → first (then_some t x ∷ b ∷ []) ≡ None → t ≡ false
first_fails true x b is = absurd cc
first_fails false x b is = refl

not_over : (m n : ℕ) → nat_lt m n ≡ false → n ≤ m
not_over m n e = grind (arith, nat_tests)

pub within : (held log_bytes : ℕ) (op : Op) → by_bounds held log_bytes op ≡ None → held ≤ STORE_MAX
within held log_bytes op none = not_over STORE_MAX held (first_fails _ (StoreFull held) _ none)

second_fails : {A : Type 0} (a : Option A) (t : Bool) (x : A) → first (a ∷ then_some t x ∷ []) ≡ None → t ≡ false
second_fails None true x is = absurd cc
second_fails None false x is = refl
second_fails (Some a) t x is = absurd cc

pub room : (held log_bytes : ℕ) (op : Op) → by_bounds held log_bytes op ≡ None → log_bytes + payload_size op ≤ LOG_MAX
room held log_bytes op none =
    not_over LOG_MAX (log_bytes + payload_size op)
    (second_fails (then_some (nat_lt STORE_MAX held) (StoreFull held)) (nat_lt LOG_MAX (log_bytes + payload_size op)) (LogFull (log_bytes + payload_size op)) none)
