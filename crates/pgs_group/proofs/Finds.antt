-- Finding by tests that agree.
use Rattle.std.proofs.Common.{◌≡◌, ℕ, ◌==◌, ◌&&◌, nat_lt, not, List, find}
use Rattle.pgs_history.specs.Members.{told}
use Rattle.pgs_history.specs.declared.event.Event.{Event}
use Rattle.pgs_history.specs.Acting.{acting, has_osd}
use Rattle.pgs_history.specs.Answers.{last_number, lagging}
use Rattle.pgs_history.specs.declared.made.Made.{Made}
use Rattle.pgs_group.specs.Counts.{count_of, lags_behind}
use Rattle.pgs_group.specs.declared.counts.Counts.{Counts}

-- who is behind by the counts that are kept is behind by the events
pub behind_is : (counts : Counts) (past : List Event) (number : ℕ) (members : List ℕ) → ((osd : ℕ) → count_of counts osd ≡ told past osd)
    → find (λ osd. nat_lt (count_of counts osd) number) members ≡ find (λ osd. nat_lt (told past osd) number) members
behind_is counts past number members same = λ i. find (λ osd. nat_lt (same osd i) number) members

-- who lags by the counts that are kept lags by the events
pub lagging_is : (counts : Counts) (made : Made) (past : List Event) (osds acts : List ℕ) (number : ℕ) → ((osd : ℕ) → count_of counts osd ≡ told past osd)
    → acts ≡ acting made past → number ≡ last_number past → find (lags_behind acts counts number) osds ≡ lagging made past osds
lagging_is counts made past osds acts number same who all = λ i. find (λ osd. not (has_osd (who i) osd) && not (same osd i == all i)) osds
