-- Ascending views in two: those of the first family, and those behind them.
use Rattle.std.specs.Prelude.{Bool, true, false, ◌≡◌, List, ◌∷◌, ◌++◌}
use Rattle.std.specs.List.{AllByRecursion}
use Rattle.pgs_name.specs.Families.{same_family}
use Rattle.pgs_snapcheck.specs.declared.view.View.{View}

-- a view is of the family of another
abbrev pub is_beside : View → View → Bool
is_beside first view = same_family first.id.family view.id.family

-- all views of the first one's family stand in front, and no other there
pub record IsFirstRun (views family behind : List View) : Type 0 where
  pub first : View
  pub more : List View
  pub begins : family ≡ first ∷ more
  pub whole : views ≡ family ++ behind
  pub beside : AllByRecursion (λ view. is_beside first view ≡ true) family
  pub others : AllByRecursion (λ view. is_beside first view ≡ false) behind
