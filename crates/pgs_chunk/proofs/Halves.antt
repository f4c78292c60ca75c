-- A number of so many bits is nothing where it is halved as often.
use Rattle.std.proofs.Common.{ℕ, ◌≡◌, ◌≤◌, ◌<◌, ◌/◌, ◌^◌, arith}
use Rattle.std.proofs.Math.Nat.{div-eq_of_lt}
use Rattle.std.proofs.Math.Pow.{pow_mono}

pub no_halves : (number times : ℕ) → number < 2 ^ 32 → 32 ≤ times → number / 2 ^ times ≡ 0
no_halves number times h k =
    let all : 2 ^ 32 ≤ 2 ^ times = pow_mono k in
    let small : number < 2 ^ times = omega arith in
    div-eq_of_lt small
