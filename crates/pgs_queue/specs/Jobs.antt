-- Scrub jobs in the order in which they were added, at most one a group, and which of them is picked.
use Rattle.std.specs.Prelude.{ℕ, ◌≡◌, ◌==◌, ◌++◌, Bool, true, false, not, nat_eq, nat_lt, nat_le, if◌then◌else◌, List, [], ◌∷◌, Contains, All, filter, find, Option, Some, None}
use Rattle.pgs_queue.specs.declared.job.Job.{Job}
use Rattle.pgs_queue.specs.declared.add_answer.AddAnswer.{AddAnswer}
use Rattle.pgs_queue.specs.declared.add_answer.AddAnswer.TheVariants.{Queued, Already}

-- whether a job may be picked at a moment
abbrev pub is_ripe : ℕ → Job → Bool
is_ripe now job = nat_le job.not_before now

-- whether a job is picked before another: by rank, then by moment, then by group
abbrev pub is_before : Job → Job → Bool
is_before a b =
    if nat_eq a.rank b.rank
    then (if nat_eq a.not_before b.not_before then nat_lt a.group b.group else nat_lt a.not_before b.not_before)
    else nat_lt a.rank b.rank

-- the job of a group
abbrev pub job_of : ℕ → List Job → Option Job
job_of group jobs = find (λ job. job.group == group) jobs

-- no group has two jobs: each job's group has no later one
abbrev pub AreDistinct : List Job → Type 0
AreDistinct [] = Unit {0}
AreDistinct (job ∷ jobs) = (job_of job.group jobs ≡ None) × AreDistinct jobs

-- the jobs of all other groups
abbrev pub without : ℕ → List Job → List Job
without group jobs = filter (λ job. not (job.group == group)) jobs

-- ---- adding

-- what adding a job answers, and the jobs after it: one of its group stays, and else the job comes last
abbrev pub answer_by : Option Job → AddAnswer
answer_by None = Queued
answer_by (Some there) = Already there

abbrev pub add_answer : List Job → Job → AddAnswer
add_answer jobs job = answer_by (job_of job.group jobs)

abbrev pub with_job_by : Option Job → List Job → Job → List Job
with_job_by None jobs job = jobs ++ job ∷ []
with_job_by (Some there) jobs job = jobs

abbrev pub with_job : List Job → Job → List Job
with_job jobs job = with_job_by (job_of job.group jobs) jobs job

-- ---- picking

-- of a job and the first of others, the one that is picked before the other
abbrev pub lesser : Job → Option Job → Job
lesser job None = job
lesser job (Some other) = if is_before other job then other else job

-- the first to be picked of the jobs that may be picked at a moment
abbrev pub least_ripe : ℕ → List Job → Option Job
least_ripe now [] = None
least_ripe now (job ∷ jobs) = if is_ripe now job then Some (lesser job (least_ripe now jobs)) else least_ripe now jobs

-- the jobs without this one, if it is one
abbrev pub taken_out : Option Job → List Job → List Job
taken_out None jobs = jobs
taken_out (Some job) jobs = without job.group jobs

-- What a pick answers, and the jobs after it. A job that was in the queue and may be picked now, before which none of those that may be picked comes;
-- it is taken out, and nothing else is. None is picked exactly where none may be, and then all is as before.
abbrev pub IsPicked : Option Job → ℕ → List Job → List Job → Type 0
IsPicked None now old new = All (λ job. is_ripe now job ≡ false) old × (new ≡ old)
IsPicked (Some job) now old new =
    Contains old job × (is_ripe now job ≡ true) × All (λ other. is_ripe now other ≡ true → is_before other job ≡ false) old × (new ≡ without job.group old)
