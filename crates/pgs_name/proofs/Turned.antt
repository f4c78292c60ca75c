-- Bits are put into the other order one by one, from the lowest.
use Rattle.std.proofs.Common.{ℕ, zero, suc, ◌≡◌, ◌+◌, ◌*◌, ◌/◌, ◌%◌, ◌^◌, ap, ◌∙◌, arith}
use Rattle.std.specs.Int.{reverse_bits, reverse_bits_onto, w32}
use Rattle.std.proofs.Math.Nat.{pow-suc}
use Rattle.pgs_name.specs.Order.{reversed}

one_more : (a power bit rest : ℕ) → (a * 2 + bit) * power + rest ≡ a * (power * 2) + (bit * power + rest)
one_more a power bit rest = grind arith

onto : (bits word above : ℕ) → reverse_bits_onto bits word above ≡ above * 2 ^ bits + reversed bits word
unfolding reversed reverse_bits_onto
onto zero word above = grind arith
onto (suc bits) word above =
    onto bits (word / 2) (above * 2 + word % 2)
    ∙ one_more above (2 ^ bits) (word % 2) (reversed bits (word / 2))
    ∙ ap (λ p. above * p + (word % 2 * 2 ^ bits + reversed bits (word / 2))) (rw (pow-suc 2 bits) (grind arith))

pub reversed_at_once : (word : ℕ) → reverse_bits w32 word ≡ reversed 32 word
reversed_at_once word = onto 32 word 0 ∙ grind arith
