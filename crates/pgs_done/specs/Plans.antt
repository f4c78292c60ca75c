-- How the answers are printed that say who acts, who holds slots and which scrubs wait.
use Rattle.std.specs.Prelude.{ℕ, List, [], ◌∷◌, ◌++◌, Option, Some, None, codes}
use Rattle.std.specs.Fmt.{decimal}
use Rattle.pgs_lines.specs.Objects.{kind_word}
use Rattle.pgs_done.specs.Scrubs.{scrub_word}
use Rattle.pgs_done.specs.declared.holder.Holder.{Holder}
use Rattle.pgs_done.specs.declared.interval_answer.IntervalAnswer.{IntervalAnswer}
use Rattle.pgs_done.specs.declared.interval_answer.IntervalAnswer.TheVariants as intervals
use Rattle.pgs_done.specs.declared.claim_answer.ClaimAnswer.{ClaimAnswer}
use Rattle.pgs_done.specs.declared.claim_answer.ClaimAnswer.TheVariants as claims
use Rattle.pgs_done.specs.declared.release_answer.ReleaseAnswer.{ReleaseAnswer}
use Rattle.pgs_done.specs.declared.release_answer.ReleaseAnswer.TheVariants as releases
use Rattle.pgs_done.specs.declared.job_answer.JobAnswer.{JobAnswer}
use Rattle.pgs_done.specs.declared.job_answer.JobAnswer.TheVariants as jobs
use Rattle.pgs_done.specs.declared.unjob_answer.UnjobAnswer.{UnjobAnswer}
use Rattle.pgs_done.specs.declared.unjob_answer.UnjobAnswer.TheVariants as unjobs
use Rattle.pgs_done.specs.declared.pick_answer.PickAnswer.{PickAnswer}
use Rattle.pgs_done.specs.declared.pick_answer.PickAnswer.TheVariants as picks

-- ---- who acts

-- the scrub of a group that ends, if one does
abbrev pub ends_words : ℕ → Option ℕ → List (List ℕ)
ends_words group None = []
ends_words group (Some serial) = codes "ends" ∷ scrub_word group serial ∷ []

abbrev pub interval_words : ℕ → IntervalAnswer → List (List ℕ)
interval_words group (intervals.Changed epoch ends) = codes "interval" ∷ decimal epoch ∷ ends_words group ends
interval_words group (intervals.NotCaughtUp osd told length) = codes "not-caught-up" ∷ decimal osd ∷ decimal told ∷ decimal length ∷ []
interval_words group (intervals.LastEpoch epoch) = codes "last-epoch" ∷ decimal epoch ∷ []

-- ---- who holds slots

-- scrubs as they are appended, with a mark before the first and a comma before each other
abbrev pub holders_marked : ℕ → List Holder → List ℕ
holders_marked mark [] = []
holders_marked mark (h ∷ hs) = mark ∷ scrub_word h.group h.serial ++ holders_marked 44 hs

-- G.S,G.S: one word, and none where no scrub is
abbrev pub holder_words : List Holder → List (List ℕ)
holder_words [] = []
holder_words (h ∷ hs) = (scrub_word h.group h.serial ++ holders_marked 44 hs) ∷ []

abbrev pub claim_words : ClaimAnswer → List (List ℕ)
claim_words (claims.Claimed osd slot) = codes "claimed" ∷ decimal osd ∷ decimal slot ∷ []
claim_words (claims.Reserved osd slot) = codes "reserved" ∷ decimal osd ∷ decimal slot ∷ []
claim_words (claims.Denied osd holders) = codes "denied" ∷ decimal osd ∷ holder_words holders
claim_words claims.NoClaim = codes "no-claim" ∷ []

abbrev pub release_words : ℕ → ReleaseAnswer → List (List ℕ)
release_words group (releases.Released serial) = codes "released" ∷ scrub_word group serial ∷ []
release_words group releases.NotHeld = codes "not-held" ∷ []

-- ---- which scrubs wait

abbrev pub job_words : JobAnswer → List (List ℕ)
job_words jobs.Queued = codes "queued" ∷ []
job_words (jobs.Already kind rank moment) = codes "already" ∷ kind_word kind ∷ decimal rank ∷ decimal moment ∷ []

abbrev pub unjob_words : UnjobAnswer → List (List ℕ)
unjob_words unjobs.Dropped = codes "dropped" ∷ []
unjob_words unjobs.None = codes "none" ∷ []

abbrev pub pick_words : PickAnswer → List (List ℕ)
pick_words (picks.Picked group kind) = codes "picked" ∷ decimal group ∷ kind_word kind ∷ []
pick_words picks.None = codes "none" ∷ []
