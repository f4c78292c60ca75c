-- That no group has two jobs, as jobs come and go.
use Rattle.std.proofs.Common.{ℕ, ◌≡◌, ◌==◌, true, false, cond, not, List, [], ◌∷◌, ◌++◌, Option, Some, None, refl, sym, ap, ◌∙◌, arith}
use Rattle.std.specs.Prelude.{IfNone}
use Rattle.std.proofs.lemmas.Bool.Decides.{nat_tests}
use Rattle.pgs_bytes.proofs.Facts.{some_none}
use Rattle.pgs_queue.specs.declared.job.Job.{Job}
use Rattle.pgs_queue.specs.declared.add_answer.AddAnswer.TheVariants.{Queued, Already}
use Rattle.pgs_queue.specs.Jobs.{job_of, without, answer_by, add_answer, with_job_by, with_job, AreDistinct}
use Rattle.pgs_queue.proofs.Picks.{picked}

-- where a group has no job, the first isn't of it, nor has it one of the rest
none_of : (group : ℕ) (job : Job) (jobs : List Job) → job_of group (job ∷ jobs) ≡ None → ((job.group == group) ≡ false) × (job_of group jobs ≡ None)
none_of group job jobs e =
    (elim (job.group == group) as (λ v. cond v (Some job) (job_of group jobs) ≡ None → (v ≡ false) × (job_of group jobs ≡ None)) [
      | true ↦ λ some. absurd (some_none job some)
      | false ↦ λ none. (refl, none)
    ]) e

none_from : (group : ℕ) (job : Job) (jobs : List Job) → (job.group == group) ≡ false → job_of group jobs ≡ None → job_of group (job ∷ jobs) ≡ None
none_from group job jobs other none = ap (λ b. cond b (Some job) (job_of group jobs)) other ∙ none

turned : (a b : ℕ) → (a == b) ≡ false → (b == a) ≡ false
turned a b e = grind (arith, nat_tests, e)

none_behind : (group : ℕ) (jobs : List Job) (job : Job) → job_of group jobs ≡ None → (job.group == group) ≡ false → job_of group (jobs ++ job ∷ []) ≡ None
none_behind group [] job none other = none_from group job [] other refl
none_behind group (first ∷ jobs) job none other =
    let rest = none_of group first jobs none in
    none_from group first (jobs ++ job ∷ []) rest.0 (none_behind group jobs job rest.1 other)

pub distinct_behind : (jobs : List Job) (job : Job) → AreDistinct jobs → job_of job.group jobs ≡ None → AreDistinct (jobs ++ job ∷ [])
distinct_behind [] job distinct fresh = (refl, tt)
distinct_behind (first ∷ jobs) job distinct fresh =
    let rest = none_of job.group first jobs fresh in
    (none_behind first.group jobs job distinct.0 (turned first.group job.group rest.0), distinct_behind jobs job distinct.1 rest.1)

none_without : (group gone : ℕ) (jobs : List Job) → job_of group jobs ≡ None → job_of group (without gone jobs) ≡ None
none_without group gone [] none = refl
none_without group gone (job ∷ jobs) none =
    let rest = none_of group job jobs none in
    elim (job.group == gone) as (λ v. job_of group (cond (not v) (job ∷ without gone jobs) (without gone jobs)) ≡ None) [
      | true ↦ none_without group gone jobs rest.1
      | false ↦ none_from group job (without gone jobs) rest.0 (none_without group gone jobs rest.1)
    ]

pub distinct_without : (gone : ℕ) (jobs : List Job) → AreDistinct jobs → AreDistinct (without gone jobs)
distinct_without gone [] distinct = tt
distinct_without gone (job ∷ jobs) distinct =
    elim (job.group == gone) as (λ v. AreDistinct (cond (not v) (job ∷ without gone jobs) (without gone jobs))) [
      | true ↦ distinct_without gone jobs distinct.1
      | false ↦ (none_without job.group gone jobs distinct.0, distinct_without gone jobs distinct.1)
    ]

-- where a group has no job, none is taken out
pub without_none : (group : ℕ) (jobs : List Job) → job_of group jobs ≡ None → without group jobs ≡ jobs
without_none group [] none = refl
without_none group (job ∷ jobs) none =
    let rest = none_of group job jobs none in
    ap (λ v. cond (not v) (job ∷ without group jobs) (without group jobs)) rest.0 ∙ ap (λ more. job ∷ more) (without_none group jobs rest.1)

pub none_dropped : (found : Option Job) (group : ℕ) (old new : List Job) → found ≡ job_of group old → new ≡ without group old → IfNone found (new ≡ old)
none_dropped None group old new e kept = kept ∙ without_none group old (sym e)
none_dropped (Some job) group old new e kept = tt

-- ---- adding

pub already_answer : (jobs : List Job) (job there : Job) → job_of job.group jobs ≡ Some there → Already there ≡ add_answer jobs job
already_answer jobs job there e = sym (ap answer_by e)

pub already_kept : (jobs : List Job) (job there : Job) → job_of job.group jobs ≡ Some there → jobs ≡ with_job jobs job
already_kept jobs job there e = sym (ap (λ found. with_job_by found jobs job) e)

pub queued_answer : (jobs : List Job) (job : Job) → job_of job.group jobs ≡ None → Queued ≡ add_answer jobs job
queued_answer jobs job e = sym (ap answer_by e)

pub queued_kept : (jobs : List Job) (job : Job) → job_of job.group jobs ≡ None → jobs ++ job ∷ [] ≡ with_job jobs job
queued_kept jobs job e = sym (ap (λ found. with_job_by found jobs job) e)

pub ruleset adds = (distinct_behind, already_answer, already_kept, queued_answer, queued_kept)

pub ruleset drops = (distinct_without, none_dropped)

pub ruleset picks = (distinct_without, picked)
