-- A byte is taken in by one look-up, and a text by its pieces.
use Rattle.std.proofs.Common.{ℕ, zero, suc, ◌≡◌, ◌==◌, ◌+◌, ◌*◌, ◌/◌, ◌%◌, ◌^◌, ◌<◌, true, false, cond, List, [], ◌∷◌, ◌++◌, refl, sym, ap, ◌∙◌, bit_xor, bit_and, arith, add-one, add-zero, zero-add}
use Rattle.std.proofs.lemmas.Nat.{xor_shr, xor_mod, xor_block, xor_comm, shl-shr, and_mask, div-add-mod'}
use Rattle.std.proofs.Math.Nat.{pow-suc}
use lib.Bits.{xor_assoc, xor_zero_r}
use Rattle.pgs_crc.specs.Digest.{bit_shifted, bits_shifted, fed, crc_from, crc}
use Rattle.pgs_crc.specs.Table.{table_word}

xor_zero_l : (a : ℕ) → bit_xor 0 a ≡ a
xor_zero_l a = xor_comm 0 a ∙ xor_zero_r a

even : (h : ℕ) → (h * 2) % 2 ≡ 0
even h = omega arith

-- what stands above the lowest bit is only moved down
bit_shifted-xor : (h l : ℕ) → bit_shifted (bit_xor (h * 2) l) ≡ bit_xor h (bit_shifted l)
unfolding bit_shifted
bit_shifted-xor h l =
    let half : bit_xor (h * 2) l / 2 ≡ bit_xor h (l / 2) = xor_shr (h * 2) l 1 ∙ ap (λ x. bit_xor x (l / 2)) (shl-shr h 1) in
    let odd : bit_xor (h * 2) l % 2 ≡ l % 2 = xor_mod (h * 2) l 1 ∙ ap (λ x. bit_xor x (l % 2)) (even h) ∙ xor_zero_l (l % 2) in
    rw (odd, half)
    (elim (l % 2 == 1) as (λ v. cond v (bit_xor (bit_xor h (l / 2)) 0x82F63B78) (bit_xor h (l / 2)) ≡ bit_xor h (cond v (bit_xor (l / 2) 0x82F63B78) (l / 2))) [
      | true ↦ xor_assoc h (l / 2) 0x82F63B78
      | false ↦ refl
    ])

once : (h : ℕ) → h * 2 ^ 0 ≡ h
once h = omega arith

doubled : (h bits : ℕ) → h * 2 ^ suc bits ≡ h * 2 ^ bits * 2
doubled h bits = rw (pow-suc 2 bits) (grind arith)

-- what stands above so many bits is only moved down
bits_shifted-xor : (bits h l : ℕ) → bits_shifted bits (bit_xor (h * 2 ^ bits) l) ≡ bit_xor h (bits_shifted bits l)
unfolding bits_shifted
bits_shifted-xor zero h l = ap (λ x. bit_xor x l) (once h)
bits_shifted-xor (suc bits) h l =
    ap (bits_shifted bits) (ap (λ x. bit_shifted (bit_xor x l)) (doubled h bits) ∙ bit_shifted-xor (h * 2 ^ bits) l)
    ∙ bits_shifted-xor bits h (bit_shifted l)

-- one bit more, at the end
bits_shifted-suc : (bits c : ℕ) → bits_shifted (suc bits) c ≡ bit_shifted (bits_shifted bits c)
unfolding bits_shifted
bits_shifted-suc zero c = refl
bits_shifted-suc (suc bits) c = bits_shifted-suc bits (bit_shifted c)

pub more_bits : (bits c : ℕ) → bits_shifted (bits + 1) c ≡ bit_shifted (bits_shifted bits c)
more_bits bits c = ap (λ n. bits_shifted n c) (add-one bits) ∙ bits_shifted-suc bits c

-- no bit
pub no_bits : (c : ℕ) → bits_shifted 0 c ≡ c
unfolding bits_shifted
no_bits c = refl

-- a byte is xored in, and then eight bits further
pub fed_apart : (c byte : ℕ) → fed (bit_xor c byte) 0 ≡ fed c byte
unfolding fed
fed_apart c byte = ap (bits_shifted 8) (xor_zero_r (bit_xor c byte))

-- a word is its higher bits and its low byte
together : (high low : ℕ) → low < 256 → bit_xor (high * 2 ^ 8) low ≡ high * 256 + low
together high low h =
    ap (λ y. bit_xor y low) (sym (add-zero (high * 256)))
    ∙ ap (bit_xor (high * 256 + 0)) (sym (zero-add low))
    ∙ xor_block 8 high 0 0 low (omega arith) h
    ∙ ap (λ y. y * 256 + bit_xor 0 low) (xor_zero_r high)
    ∙ ap (λ y. high * 256 + y) (xor_zero_l low)

split : (x : ℕ) → x ≡ bit_xor (x / 256 * 2 ^ 8) (x % 256)
split x = sym (together (x / 256) (x % 256) (omega arith) ∙ div-add-mod' x 256)

high : (c byte : ℕ) → byte < 256 → bit_xor c byte / 256 ≡ c / 256
high c byte h =
    let none : byte / 256 ≡ 0 = omega arith in
    xor_shr c byte 8 ∙ ap (bit_xor (c / 256)) none ∙ xor_zero_r (c / 256)

-- a byte is taken in by the word of its low byte
pub fed_by_table : (c byte : ℕ) → byte < 256 → fed c byte ≡ bit_xor (c / 256) (table_word 0 (bit_xor c byte % 256))
unfolding fed
fed_by_table c byte h =
    let x : ℕ = bit_xor c byte in
    ap (bits_shifted 8) (split x) ∙ bits_shifted-xor 8 (x / 256) (x % 256)
    ∙ ap (λ y. bit_xor y (bits_shifted 8 (x % 256))) (high c byte h)
    ∙ ap (λ y. bit_xor (c / 256) (bits_shifted 8 y)) (sym (xor_zero_r (x % 256)))

-- the same, as the code does it
pub looked_up : (c byte low word : ℕ) → byte < 256 → low ≡ bit_and (bit_xor c byte) 255 → word ≡ table_word 0 low → fed c byte ≡ bit_xor (c / 256) word
looked_up c byte low word h p q = fed_by_table c byte h ∙ ap (bit_xor (c / 256)) (sym (q ∙ ap (table_word 0) (p ∙ and_mask (bit_xor c byte) 8)))

-- a text is taken in by its pieces
pub crc_from-append : (c : ℕ) (xs ys : List ℕ) → crc_from c (xs ++ ys) ≡ crc_from (crc_from c xs) ys
crc_from-append c [] ys = refl
crc_from-append c (x ∷ xs) ys = crc_from-append (fed c x) xs ys

pub in_pieces : (old new : ℕ) (piece : List ℕ) → new ≡ crc_from old piece → (text : List ℕ) → old ≡ crc text → new ≡ crc (text ++ piece)
in_pieces old new piece more text so_far = more ∙ ap (λ c. crc_from c piece) so_far ∙ sym (crc_from-append 0xFFFFFFFF text piece)
