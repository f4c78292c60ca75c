-- Which clone a write makes of a head.
use Rattle.std.specs.Prelude.{ℕ, nat_lt, max, if◌then◌else◌, List, [], ◌∷◌, ◌++◌, Option, Some, None}
use Rattle.std.specs.List.{filter, list_any}
use Rattle.pgs_snapset.specs.declared.clone_facts.CloneFacts.{CloneFacts}
use Rattle.pgs_snapset.specs.declared.snapset.SnapSet.{SnapSet}

-- The clone that a write with a context of a seq and snaps makes of a head of a size: none where no snap of the context is newer than the
-- snapset, which is above its seq. Else its snap is the context's seq, its size the head's, and its snaps are the newer ones, in their order.
abbrev pub clone_made : SnapSet → ℕ → List ℕ → ℕ → Option CloneFacts
clone_made set seq snaps size =
    if list_any (λ s. nat_lt set.seq s) snaps
    then Some (record { snap = seq; size = size; snaps = filter (λ s. nat_lt set.seq s) snaps })
    else None

abbrev pub with_clone : List CloneFacts → Option CloneFacts → List CloneFacts
with_clone clones None = clones
with_clone clones (Some c) = clones ++ c ∷ []

-- the snapset after a write: the clone that was made comes last, and seq is the greater of its own and the context's
abbrev pub snapset_after : SnapSet → ℕ → Option CloneFacts → SnapSet
snapset_after set seq made = record { seq = max set.seq seq; clones = with_clone set.clones made }

-- what a write with a context makes of a head of a size under a snapset: the clone, and the snapset afterwards
pub record Cloned : Type 0 where
  pub made : Option CloneFacts
  pub after : SnapSet

abbrev pub clone_rule : SnapSet → ℕ → List ℕ → ℕ → Cloned
clone_rule set seq snaps size = record { made = clone_made set seq snaps size; after = snapset_after set seq (clone_made set seq snaps size) }
