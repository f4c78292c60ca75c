-- Powers of two beyond what a number holds.
use Rattle.std.proofs.Common.{◌≡◌, ℕ, ◌+◌, ◌-◌, ◌*◌, ◌^◌, ◌<◌, ◌≤◌, ◌==◌, true, false, sym, ◌∙◌, ap, arith}
use Rattle.std.proofs.lemmas.Bool.Decides.{nat_tests}
use Rattle.std.proofs.lemmas.Nat.{pow_pos, pow-add}
use Rattle.pgs_order.specs.Order.{is_below}

beyond_32 : (bits : ℕ) → 32 ≤ bits → 2 ^ 32 ≤ 2 ^ bits
beyond_32 bits h =
    let whole : 32 + (bits - 32) ≡ bits = omega arith in
    let cut : 2 ^ (32 + (bits - 32)) ≡ 2 ^ 32 * 2 ^ (bits - 32) = pow-add 2 32 (bits - 32) in
    let some : 0 < 2 ^ (bits - 32) = pow_pos (bits - 32) in
    let is : 2 ^ bits ≡ 2 ^ 32 * 2 ^ (bits - 32) = ap (λ b. 2 ^ b) (sym whole) ∙ cut in
    omega arith

beyond_64 : (bits : ℕ) → 64 ≤ bits → 2 ^ 64 ≤ 2 ^ bits
beyond_64 bits h =
    let whole : 64 + (bits - 64) ≡ bits = omega arith in
    let cut : 2 ^ (64 + (bits - 64)) ≡ 2 ^ 64 * 2 ^ (bits - 64) = pow-add 2 64 (bits - 64) in
    let some : 0 < 2 ^ (bits - 64) = pow_pos (bits - 64) in
    let is : 2 ^ bits ≡ 2 ^ 64 * 2 ^ (bits - 64) = ap (λ b. 2 ^ b) (sym whole) ∙ cut in
    omega arith

pub all_below : (bits n : ℕ) → 32 ≤ bits → n < 2 ^ 32 → is_below bits n ≡ true
all_below bits n h small = let much = beyond_32 bits h in grind (arith, nat_tests)

pub never_so_many : (bits n : ℕ) → 64 ≤ bits → n < 2 ^ 64 → (n == 2 ^ bits) ≡ false
never_so_many bits n h small = let much = beyond_64 bits h in grind (arith, nat_tests)
