-- What holds of the acting OSDs of a legal history.
use Rattle.std.specs.Prelude.{ℕ, ◌≡◌, ◌≤◌, true, false, List, [], ◌∷◌}
use Rattle.pgs_history.specs.Acting.{acts, has_osd}
use Rattle.pgs_history.specs.Members.{told}
use Rattle.pgs_history.specs.Answers.{last_number}
use Rattle.pgs_history.specs.declared.interval_answer.IntervalAnswer.TheVariants.{Changed}
use Rattle.pgs_history.specs.declared.event.Event.{Event}
use Rattle.pgs_history.specs.declared.event.Event.TheVariants.{Collect, Interval}
use Rattle.pgs_history.specs.declared.made.Made.{Made}

-- ---- who joins

-- an OSD that an interval lets act, and that didn't act before, had told of all the log then
abbrev pub IsCaughtUp : Made → Event → List Event → Type 0
IsCaughtUp made (Interval osds (Changed new ends)) past = (osd : ℕ) → has_osd osds osd ≡ true → acts made past osd ≡ false → told past osd ≡ last_number past
IsCaughtUp made event past = Unit {0}

-- so it was at every interval
abbrev pub AreCaughtUp : Made → List Event → Type 0
AreCaughtUp made [] = Unit {0}
AreCaughtUp made (event ∷ past) = IsCaughtUp made event past × AreCaughtUp made past

-- ---- what was acknowledged

abbrev pub IsUpto : Event → ℕ → Type 0
IsUpto (Collect id version) count = version.number ≤ count
IsUpto event count = Unit {0}

-- the number of each write of which a client learned that it is acknowledged is at most this
abbrev pub AreUpto : List Event → ℕ → Type 0
AreUpto [] count = Unit {0}
AreUpto (event ∷ past) count = IsUpto event count × AreUpto past count

-- Every OSD that acts told of each write of which a client learned that it is acknowledged, also where it joined later: so the write stays acknowledged.
abbrev pub AreAcknowledged : Made → List Event → Type 0
AreAcknowledged made past = (osd : ℕ) → acts made past osd ≡ true → AreUpto past (told past osd)
