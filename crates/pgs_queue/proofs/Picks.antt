-- What the least job that may be picked is.
use Rattle.std.proofs.Common.{ℕ, ◌≡◌, ◌<◌, suc, Bool, true, false, cond, List, [], ◌∷◌, length, Option, Some, None, refl, sym, ◌∙◌, subst, arith}
use Rattle.std.specs.Prelude.{Contains}
use Rattle.std.specs.List.{AllByRecursion}
use Rattle.std.proofs.lemmas.List.Elements.{All-from_recursion}
use Rattle.pgs_bytes.proofs.Facts.{none_some, some_none, some_same, true_false}
use Rattle.pgs_queue.specs.declared.job.Job.{Job}
use Rattle.pgs_queue.specs.Jobs.{is_ripe, is_before, lesser, least_ripe, taken_out, IsPicked}
use Rattle.pgs_queue.proofs.Before.{before_itself, before_turned, before_joined}

-- ---- none may be picked

abbrev AreUnripe : ℕ → List Job → Type 0
AreUnripe now jobs = AllByRecursion (λ job. is_ripe now job ≡ false) jobs

none_ripe : (now : ℕ) (jobs : List Job) → least_ripe now jobs ≡ None → AreUnripe now jobs
none_ripe now [] e = tt
none_ripe now (job ∷ jobs) e =
    let P : Bool → Type 0 = λ v. is_ripe now job ≡ v → cond v (Some (lesser job (least_ripe now jobs))) (least_ripe now jobs) ≡ None
    → (is_ripe now job ≡ false) × AreUnripe now jobs in
    (elim (is_ripe now job) as P [
      | true ↦ λ ripe some. absurd (some_none (lesser job (least_ripe now jobs)) some)
      | false ↦ λ unripe none. (unripe, none_ripe now jobs none)
    ]) refl e

-- ---- one may be

-- of those that may be picked none is before this one
abbrev IsFirst : ℕ → Job → List Job → Type 0
IsFirst now first jobs = AllByRecursion (λ other. is_ripe now other ≡ true → is_before other first ≡ false) jobs

abbrev IsLeast : ℕ → Job → List Job → Type 0
IsLeast now first jobs = Contains jobs first × (is_ripe now first ≡ true) × IsFirst now first jobs

contains_first : (job : Job) (jobs : List Job) → Contains (job ∷ jobs) job
contains_first job jobs = (0, omega arith, refl)

contains_more : (job other : Job) (jobs : List Job) → Contains jobs other → Contains (job ∷ jobs) other
contains_more job other jobs c = (suc c.0, (let within : c.0 < length jobs = c.1 in omega arith), c.2)

-- no job that may be picked is before one that another isn't after
first_below : (now : ℕ) (job first : Job) (jobs : List Job) → is_before first job ≡ false → IsFirst now first jobs → IsFirst now job jobs
first_below now job first [] e all = tt
first_below now job first (other ∷ jobs) e all = (λ ripe. before_joined job first other e (all.0 ripe), first_below now job first jobs e all.1)

-- no job may be picked, so none is before this one
first_of_none : (now : ℕ) (job : Job) (jobs : List Job) → AreUnripe now jobs → IsFirst now job jobs
first_of_none now job [] none = tt
first_of_none now job (other ∷ jobs) none = (λ ripe. absurd (true_false (sym ripe ∙ none.0)), first_of_none now job jobs none.1)

least_of_two : (now : ℕ) (job first : Job) (jobs : List Job) → is_ripe now job ≡ true → IsLeast now first jobs → IsLeast now (lesser job (Some first)) (job ∷ jobs)
least_of_two now job first jobs ripe least =
    let P : Bool → Type 0 = λ v. is_before first job ≡ v → IsLeast now (cond v first job) (job ∷ jobs) in
    (elim (is_before first job) as P [
      | true ↦ λ before. (contains_more job first jobs least.0, least.1, (λ r. before_turned first job before, least.2))
      | false ↦ λ after. (contains_first job jobs, ripe, (λ r. before_itself job, first_below now job first jobs after least.2))
    ]) refl

-- with what the rest's least is, the least of all where the first may be picked
with_ripe : (now : ℕ) (job : Job) (jobs : List Job) (found : Option Job) → least_ripe now jobs ≡ found → is_ripe now job ≡ true
    → ((first : Job) → least_ripe now jobs ≡ Some first → IsLeast now first jobs) → IsLeast now (lesser job found) (job ∷ jobs)
with_ripe now job jobs None none ripe rest = (contains_first job jobs, ripe, (λ r. before_itself job, first_of_none now job jobs (none_ripe now jobs none)))
with_ripe now job jobs (Some other) some ripe rest = least_of_two now job other jobs ripe (rest other some)

least_is : (now : ℕ) (jobs : List Job) (first : Job) → least_ripe now jobs ≡ Some first → IsLeast now first jobs
least_is now [] first e = absurd (none_some first e)
least_is now (job ∷ jobs) first e =
    let P : Bool → Type 0 = λ v. is_ripe now job ≡ v → cond v (Some (lesser job (least_ripe now jobs))) (least_ripe now jobs) ≡ Some first → IsLeast now first (job ∷ jobs) in
    (elim (is_ripe now job) as P [
      | true ↦ λ ripe some. subst (λ f. IsLeast now f (job ∷ jobs)) (some_same (lesser job (least_ripe now jobs)) first some) (with_ripe now job jobs (least_ripe now jobs) refl ripe (least_is now jobs))
      | false ↦ λ unripe rest.
          let least = least_is now jobs first rest in
          (contains_more job first jobs least.0, least.1, (λ ripe. absurd (true_false (sym ripe ∙ unripe)), least.2))
    ]) refl e

-- ---- a pick

pub picked : (found : Option Job) (now : ℕ) (old new : List Job) → found ≡ least_ripe now old → new ≡ taken_out found old → IsPicked found now old new
picked None now old new e kept = (All-from_recursion (λ job. is_ripe now job ≡ false) old (none_ripe now old (sym e)), kept)
picked (Some job) now old new e kept =
    let least = least_is now old job (sym e) in
    (least.0, least.1, All-from_recursion (λ other. is_ripe now other ≡ true → is_before other job ≡ false) old least.2, kept)
