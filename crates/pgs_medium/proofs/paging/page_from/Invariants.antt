use Rattle.std.proofs.Common.{◌≡◌, ◌++◌, ◌≤◌, length}
use Rattle.std.specs.BTreeMap.Range.{entries_between}
use Rattle.std.specs.Cmp.Lexicographic.{slice_cmp}
use Rattle.std.specs.Ordering.{nat_cmp}
use Rattle.std.specs.Range.Bound.{bound_map}
use Rattle.std.specs.declared.ops.Bound.TheVariants.{Unbounded}
use Rattle.pgs_medium.specs.Reads.{PAGE_PAIRS}
use Rattle.pgs_medium.proofs.paging.page_from.Given as goal

-- the pairs so far, and those that are left
abbrev pub invariant-loop-key : goal.invariant-loop-key
invariant-loop-key l =
    (goal.iterator-loop-key).can_next l.key-iterator
    × (goal.iterator-loop-key).is_finite l.key-iterator
    × (l.pairs ++ l.key-iterator ≡ entries_between (slice_cmp nat_cmp) (bound_map (λ x. x.now) l.start) Unbounded l.omap.entries)
    × (length l.pairs ≤ PAGE_PAIRS)
    × (l.header ≡ l.fn.header)
