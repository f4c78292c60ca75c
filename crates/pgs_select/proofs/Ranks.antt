-- The order of infos by rank.
use Rattle.std.proofs.Common.{◌≡◌, true, false, Option, Some, None, refl, sym, ap}
use Rattle.std.specs.declared.cmp.Ordering.{Ordering}
use Rattle.std.specs.declared.cmp.Ordering.TheVariants.{Less, Equal, Greater}
use Rattle.std.specs.Cmp.{IsTotalOrder, nat_cmp_total, on_total, then_total}
use Rattle.std.proofs.lemmas.Cmp.{tied_itself}
use Rattle.std.specs.Ordering.{is_lt, is_eq}
use Rattle.pgs_bytes.proofs.Facts.{true_false}
use Rattle.pgs_info.specs.declared.info.ObjectInfo.{ObjectInfo}
use Rattle.pgs_select.specs.Choice.{recorded, rank_cmp, is_below}
use Rattle.pgs_select.specs.Best.{is_alike}

rank_total : IsTotalOrder rank_cmp
rank_total =
    then_total (then_total (on_total (λ i. i.version.epoch) nat_cmp_total) (on_total (λ i. i.version.number) nat_cmp_total)) (on_total recorded nat_cmp_total)

less : (o : Ordering) → is_lt o ≡ true → o ≡ Less
less Less e = refl
less Equal e = absurd (true_false (sym e))
less Greater e = absurd (true_false (sym e))

equal : (o : Ordering) → is_eq o ≡ true → o ≡ Equal
equal Less e = absurd (true_false (sym e))
equal Equal e = refl
equal Greater e = absurd (true_false (sym e))

pub below_chain : (a b c : Option ObjectInfo) → is_below a b ≡ true → is_below b c ≡ true → is_below a c ≡ true
below_chain None b c h k = absurd (true_false (sym h))
below_chain (Some a) None c h k = absurd (true_false (sym h))
below_chain (Some a) (Some b) None h k = absurd (true_false (sym k))
below_chain (Some a) (Some b) (Some c) h k =
    ap is_lt (rank_total.trans a b c (less (rank_cmp a b) h) (less (rank_cmp b c) k))

pub not_below_itself : (a : Option ObjectInfo) → is_below a a ≡ false
not_below_itself None = refl
not_below_itself (Some a) = ap is_lt (tied_itself rank_total a)

-- what ranks alike is below the same
pub alike_below : (a b c : Option ObjectInfo) → is_alike a b ≡ true → is_below a c ≡ is_below b c
alike_below None b c h = absurd (true_false (sym h))
alike_below (Some a) None c h = absurd (true_false (sym h))
alike_below (Some a) (Some b) None h = refl
alike_below (Some a) (Some b) (Some c) h = ap is_lt (rank_total.congr a b c (equal (rank_cmp a b) h))
