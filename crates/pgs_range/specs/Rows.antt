-- Ranges in a row, the last first.
use Rattle.std.specs.Prelude.{ℕ, ◌≡◌, ◌+◌, IsTrue, if◌then◌else◌, List, [], ◌∷◌}
use Rattle.pgs_name.specs.Families.{Family}
use Rattle.pgs_range.specs.Ranges.{in_range}
use Rattle.pgs_range.specs.declared.bound.Bound.{Bound}
use Rattle.pgs_range.specs.declared.family_range.FamilyRange.{FamilyRange}
use Rattle.pgs_range.specs.Ends.{is_upto}

-- each range begins where the one before it ended, the first at `from`, and the last ends at `to`
abbrev pub AreInRow : Bound → List FamilyRange → Bound → Type 0
AreInRow from [] to = to ≡ from
AreInRow from (range ∷ ranges) to = (range.to ≡ to) × IsTrue (is_upto range.from range.to) × AreInRow from ranges range.from

-- how many ranges hold a family
abbrev pub times_held : List FamilyRange → Family → ℕ
times_held [] f = 0
times_held (range ∷ ranges) f = (if in_range range f then 1 else 0) + times_held ranges f
