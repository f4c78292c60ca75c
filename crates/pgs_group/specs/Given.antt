-- What members were given.
use Rattle.std.specs.Prelude.{ℕ, Option, Some, None}
use Rattle.std.specs.Ordering.{nat_cmp}
use Rattle.std.specs.BTreeMap.{get}
use Rattle.pgs_group.specs.declared.given.Given.{Given}
use Rattle.pgs_group.specs.declared.given.Upto.{Upto}

abbrev pub pulled_in : Option Upto → ℕ
pulled_in None = 0
pulled_in (Some upto) = upto.pulled

abbrev pub asked_in : Option Upto → ℕ
asked_in None = 0
asked_in (Some upto) = upto.asked

-- the number of the last item that an OSD was given, or 0
abbrev pub pulled_of : Given → ℕ → ℕ
pulled_of given osd = pulled_in (get nat_cmp given.all osd)

-- that of the newest chunk that it was asked for, or 0
abbrev pub asked_of : Given → ℕ → ℕ
asked_of given osd = asked_in (get nat_cmp given.all osd)
