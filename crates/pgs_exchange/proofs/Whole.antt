-- A deposit that was made of a result tells it.
use Rattle.std.proofs.Common.{◌≡◌, ℕ, Option, Some, None, Result, Ok, Err, sym, subst, ◌∙◌}
use Rattle.std.specs.Prelude.{option_map}
use Rattle.pgs_bytes.proofs.Facts.{some_none, some_same}
use Rattle.pgs_exchange.specs.Deposits.{read_deposit, IsRead, IsWhole, as_read}
use Rattle.pgs_exchange.specs.declared.deposit.Deposit.{Deposit}
use Rattle.pgs_exchange.specs.declared.scan_result.ScanResult.{ScanResult}

not_whole : (read : Result ScanResult ℕ) (at : ℕ) → IsRead read → read ≡ Err at → ⊥
not_whole (Ok told) at whole e = cc
not_whole (Err other) at whole e = absurd whole

pub never_corrupt : (d : Deposit) (at : ℕ) → IsWhole d → read_deposit d ≡ Err at → ⊥
never_corrupt d at whole e = not_whole (read_deposit d) at whole e

same_ok : (a b : ScanResult) → as_read a ≡ as_read b → a ≡ b
same_ok a b e = cc

-- of one that was made of a result, if there is one
pub whole_of : (d : Deposit) (told : Option ScanResult) → Some (read_deposit d) ≡ option_map as_read told → IsWhole d
whole_of d None e = absurd (some_none (read_deposit d) e)
whole_of d (Some told) e = subst IsRead (sym (some_same (read_deposit d) (as_read told) e)) tt

pub told_is : (d : Deposit) (told : Option ScanResult) (now : ScanResult) → Some (read_deposit d) ≡ option_map as_read told → read_deposit d ≡ Ok now → Some now ≡ told
told_is d None now e is = absurd (some_none (read_deposit d) e)
told_is d (Some told) now e is = λ i. Some (same_ok now told (sym is ∙ some_same (read_deposit d) (as_read told) e) i)
