-- Sizes as numbers of 64 bits.
use Rattle.std.specs.Prelude.{ℕ, ◌^◌, nat_lt, Option}
use Rattle.std.specs.Bool.{then_some}

-- the number where 64 bits hold it
abbrev pub fitting : ℕ → Option ℕ
fitting n = then_some (nat_lt n (2 ^ 64)) n
