-- Counts of members.
use Rattle.std.specs.Prelude.{ℕ, ◌==◌, ◌&&◌, Bool, not, List, Option, Some, None}
use Rattle.pgs_history.specs.Acting.{has_osd}
use Rattle.std.specs.Ordering.{nat_cmp}
use Rattle.std.specs.BTreeMap.{get}
use Rattle.pgs_group.specs.declared.counts.Counts.{Counts}

abbrev pub or_zero : Option ℕ → ℕ
or_zero None = 0
or_zero (Some count) = count

-- the count of an OSD: 0 before it has one
abbrev pub count_of : Counts → ℕ → ℕ
count_of counts osd = or_zero (get nat_cmp counts.counts osd)

-- an OSD isn't one of the acting ones, and its count isn't a number
abbrev pub lags_behind : List ℕ → Counts → ℕ → ℕ → Bool
lags_behind acting counts number osd = not (has_osd acting osd) && not (count_of counts osd == number)
