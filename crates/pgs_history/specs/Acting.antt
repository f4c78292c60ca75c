-- The acting OSDs of a group and its epoch, by its events, the newest first.
use Rattle.std.specs.Prelude.{ℕ, ◌≡◌, ◌+◌, ◌==◌, Bool, true, false, List, [], ◌∷◌, Option, Some, None, is_some, slice_get}
use Rattle.std.specs.List.{list_any}
use Rattle.pgs_history.specs.declared.interval_answer.IntervalAnswer.TheVariants.{Changed}
use Rattle.pgs_history.specs.declared.event.Event.{Event}
use Rattle.pgs_history.specs.declared.event.Event.TheVariants.{Interval}
use Rattle.pgs_history.specs.declared.made.Made.{Made}

abbrev pub acting_after : Event → List ℕ → List ℕ
acting_after (Interval osds (Changed epoch ends)) before = osds
acting_after event before = before

-- the OSDs that act, the primary first: the members at first, and those of the last interval that changed it
abbrev pub acting : Made → List Event → List ℕ
acting made [] = made.members
acting made (event ∷ past) = acting_after event (acting made past)

abbrev pub epoch_after : Event → ℕ → ℕ
epoch_after (Interval osds (Changed epoch ends)) before = before + 1
epoch_after event before = before

-- the epoch at first, and one more for each change of the acting list
abbrev pub epoch : Made → List Event → ℕ
epoch made [] = made.epoch
epoch made (event ∷ past) = epoch_after event (epoch made past)

-- whether an OSD is one of these
abbrev pub has_osd : List ℕ → ℕ → Bool
has_osd osds osd = list_any (λ other. other == osd) osds

-- whether an OSD acts
abbrev pub acts : Made → List Event → ℕ → Bool
acts made past osd = has_osd (acting made past) osd

abbrev pub or_none : Option ℕ → ℕ
or_none None = 0
or_none (Some osd) = osd

-- the OSD at a place of a list, or 0 past its end
abbrev pub osd_at : List ℕ → ℕ → ℕ
osd_at osds place = or_none (slice_get osds place)

-- distinct OSDs of these members
abbrev pub AreMembers : List ℕ → List ℕ → Type 0
AreMembers members [] = Unit {0}
AreMembers members (osd ∷ osds) = (has_osd members osd ≡ true) × (has_osd osds osd ≡ false) × AreMembers members osds

-- a list of members that may act: it is not empty, and has each once
pub record IsActing (made : Made) (osds : List ℕ) : Type 0 where
  pub some : is_some (slice_get osds 0) ≡ true
  pub members : AreMembers made.members osds
