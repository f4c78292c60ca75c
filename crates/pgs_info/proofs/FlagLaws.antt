-- The laws of the flags.
use Rattle.std.proofs.Common.{◌≡◌, ℕ, zero, suc, Bool, true, false, refl, arith}
use Rattle.std.specs.Prelude.{nat_lt}
use Rattle.std.proofs.lemmas.Bool.Decides.{nat_tests}
use Rattle.pgs_bytes.proofs.Facts.{both, true_false}
use Rattle.pgs_codec.specs.Fields.{IsSpelling, u8, such}
use Rattle.pgs_codec.proofs.Laws.{u8_laws, such_laws, seen_laws}
use Rattle.pgs_info.specs.Flags.{flags_in, byte_of, flags}

large : (n : ℕ) → nat_lt (suc (suc (suc (suc (suc (suc (suc (suc n)))))))) 8 ≡ false
large n = grind (arith, nat_tests)

byte_back : (byte : ℕ) → nat_lt byte 8 ≡ true → byte_of (flags_in byte) ≡ byte
byte_back zero e = refl
byte_back (suc zero) e = refl
byte_back (suc (suc zero)) e = refl
byte_back (suc (suc (suc zero))) e = refl
byte_back (suc (suc (suc (suc zero)))) e = refl
byte_back (suc (suc (suc (suc (suc zero))))) e = refl
byte_back (suc (suc (suc (suc (suc (suc zero)))))) e = refl
byte_back (suc (suc (suc (suc (suc (suc (suc zero))))))) e = refl
byte_back (suc (suc (suc (suc (suc (suc (suc (suc n)))))))) e = absurd (true_false (cc (large n)))

flags_back : (whiteout data_digest omap_digest : Bool) → flags_in (byte_of (record { whiteout = whiteout; data_digest = data_digest; omap_digest = omap_digest })) ≡ record { whiteout = whiteout; data_digest = data_digest; omap_digest = omap_digest }
flags_back false false false = refl
flags_back false false true = refl
flags_back false true false = refl
flags_back false true true = refl
flags_back true false false = refl
flags_back true false true = refl
flags_back true true false = refl
flags_back true true true = refl

pub flags_laws : IsSpelling flags
flags_laws =
    seen_laws flags_in byte_of (λ f. true) (such (λ byte. nat_lt byte 8) u8) (such_laws (λ byte. nat_lt byte 8) u8 u8_laws)
    (λ byte fits. (byte_back byte (both (nat_lt byte 256) (nat_lt byte 8) fits).1, refl))
    (λ f fits test. flags_back f.whiteout f.data_digest f.omap_digest)
