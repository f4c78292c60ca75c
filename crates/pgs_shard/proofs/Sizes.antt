-- Which damage makes no copy larger.
use Rattle.std.proofs.Common.{ℕ, ◌≡◌, ◌≤◌, ◌+◌, Bool, true, false, cond, List, [], ◌∷◌, length, Option, Some, None, refl, sym, ap, arith}
use Rattle.std.specs.Prelude.{nat_lt, take, slice_index, slice_set, bit_xor, ◌&&◌}
use Rattle.std.specs.Ordering.{nat_cmp}
use Rattle.std.specs.Cmp.Lexicographic.{slice_cmp}
use Rattle.std.specs.Map.{remove_entry}
use Rattle.std.specs.BTreeMap.{is_at}
use Rattle.std.proofs.lemmas.Bool.Decides.{nat_tests}
use Rattle.std.proofs.lemmas.List.{length-take, length-set}
use Rattle.std.proofs.lemmas.List.Sums.{sum_by-cons}
use Rattle.pgs_bytes.proofs.Facts.{true_false}
use Rattle.pgs_name.specs.Families.{Family}
use Rattle.pgs_copy.specs.Copies.{damaged, makes_copy, flipped}
use Rattle.pgs_copy.specs.Pairs.{Pairs, pairs_size}
use Rattle.pgs_copy.specs.declared.damage.Damage.{Damage}
use Rattle.pgs_copy.specs.declared.damage.Damage.TheVariants as damages
use Rattle.pgs_copy.specs.declared.obj_copy.ObjCopy.{ObjCopy}
use Rattle.pgs_store.specs.Stores.{copy_size}
use Rattle.pgs_shard_history.specs.Held.{room_answer, held_after, size_before, size_after}
use Rattle.pgs_shard_history.specs.Stores.{stored_by}
use Rattle.pgs_shard_history.specs.declared.event.Event.{Event}
use Rattle.pgs_shard_history.specs.declared.damage_answer.DamageAnswer.TheVariants.{Damaged, ShardFull}
use Rattle.pgs_shard_history.specs.declared.limits.TheConstants.{SHARD_MAX}

-- a copy that isn't larger is no reason to refuse damage
pub not_more : (past : List Event) (family : Family) (snap : ℕ) (damage : Damage) → size_after past family snap damage ≤ size_before past family snap
    → Damaged ≡ room_answer past family snap damage
not_more past family snap damage h =
    let no : nat_lt (size_before past family snap) (size_after past family snap damage) ≡ false = grind (arith, nat_tests) in
    sym (ap (λ b. cond (b && nat_lt SHARD_MAX (held_after past family snap damage)) (ShardFull (held_after past family snap damage)) Damaged) no)

-- ---- damage that makes no copy makes none larger

flipped_length : (at xor : ℕ) (bytes : List ℕ) → length (flipped at xor bytes) ≡ length bytes
flipped_length at xor bytes =
    let P : Bool → Type 0 = λ v. length (cond v (slice_set bytes at (bit_xor (slice_index bytes at) xor)) bytes) ≡ length bytes in
    elim (nat_lt at (length bytes)) as P [ true ↦ length-set bytes at (bit_xor (slice_index bytes at) xor) | false ↦ refl ]

taken_length : (n : ℕ) (bytes : List ℕ) → length (take n bytes) ≤ length bytes
taken_length n bytes = omega (arith, length-take n bytes)

fewer_pairs : (test : List ℕ → Bool) (pairs : Pairs) → pairs_size (remove_entry test pairs) ≤ pairs_size pairs
fewer_pairs test [] = omega arith
fewer_pairs test (p ∷ pairs) = by (test p.0) (fewer_pairs test pairs)
  where
    by : (gone : Bool) → pairs_size (remove_entry test pairs) ≤ pairs_size pairs → pairs_size (cond gone pairs (p ∷ remove_entry test pairs)) ≤ pairs_size (p ∷ pairs)
    by true later = omega (arith, sum_by-cons (λ p. length p.0 + length p.1) p pairs)
    by false later = omega (arith, later, sum_by-cons (λ p. length p.0 + length p.1) p pairs, sum_by-cons (λ p. length p.0 + length p.1) p (remove_entry test pairs))

shrinks : (damage : Damage) (copy : Option ObjCopy) → makes_copy damage ≡ false → copy_size (damaged damage copy) ≤ copy_size copy
shrinks damages.Lose copy h = omega arith
shrinks (damages.Flip at xor) None h = omega arith
shrinks (damages.Flip at xor) (Some copy) h = omega (arith, flipped_length at xor copy.bytes)
shrinks (damages.Cut size) None h = omega arith
shrinks (damages.Cut size) (Some copy) h = omega (arith, taken_length size copy.bytes)
shrinks (damages.RmAttr name) None h = omega arith
shrinks (damages.RmAttr name) (Some copy) h = omega (arith, fewer_pairs (is_at (slice_cmp nat_cmp name)) copy.attrs)
shrinks (damages.RmOmap key) None h = omega arith
shrinks (damages.RmOmap key) (Some copy) h = omega (arith, fewer_pairs (is_at (slice_cmp nat_cmp key)) copy.omap)
shrinks (damages.SetData bytes) copy h = absurd (true_false h)
shrinks (damages.SetAttr name value) copy h = absurd (true_false h)
shrinks (damages.SetOmap key value) copy h = absurd (true_false h)
shrinks (damages.SetHeader bytes) copy h = absurd (true_false h)

pub never_more : (past : List Event) (family : Family) (snap : ℕ) (damage : Damage) → makes_copy damage ≡ false → Damaged ≡ room_answer past family snap damage
never_more past family snap damage h = not_more past family snap damage (shrinks damage (stored_by past family snap) h)
