-- The least job, looked for from the end.
use Rattle.std.proofs.Common.{ℕ, ◌≡◌, ◌+◌, ◌<◌, ◌≤◌, true, false, cond, List, ◌∷◌, length, drop, get_or, Option, Some, None, sym, ap, ◌∙◌, arith}
use Rattle.std.proofs.lemmas.List.{drop_more, drop_all}
use Rattle.pgs_queue.specs.declared.job.Job.{Job}
use Rattle.pgs_queue.specs.Jobs.{is_ripe, lesser, least_ripe}

pub begins : (now : ℕ) (jobs : List Job) → None ≡ least_ripe now (drop (length jobs) jobs)
begins now jobs = sym (ap (least_ripe now) (drop_all (length jobs) jobs (omega arith)))

one_more : (jobs : List Job) (left at : ℕ) (job : Job) → left ≡ at + 1 → at < length jobs → job ≡ get_or jobs at job → drop at jobs ≡ job ∷ drop left jobs
one_more jobs left at job is within here =
    drop_more jobs at job within ∙ (λ i. sym here i ∷ drop (sym is i) jobs)

pub ripe_first : (now : ℕ) (jobs : List Job) (left at : ℕ) (job : Job) (least : Option Job) → left ≡ at + 1 → at < length jobs → job ≡ get_or jobs at job
    → is_ripe now job ≡ true → least ≡ least_ripe now (drop left jobs) → Some (lesser job least) ≡ least_ripe now (drop at jobs)
ripe_first now jobs left at job least is within here ripe rest =
    ap (λ l. Some (lesser job l)) rest
    ∙ sym (ap (λ b. cond b (Some (lesser job (least_ripe now (drop left jobs)))) (least_ripe now (drop left jobs))) ripe)
    ∙ sym (ap (least_ripe now) (one_more jobs left at job is within here))

pub unripe_first : (now : ℕ) (jobs : List Job) (left at : ℕ) (job : Job) (least : Option Job) → left ≡ at + 1 → at < length jobs → job ≡ get_or jobs at job
    → is_ripe now job ≡ false → least ≡ least_ripe now (drop left jobs) → least ≡ least_ripe now (drop at jobs)
unripe_first now jobs left at job least is within here unripe rest =
    rest
    ∙ sym (ap (λ b. cond b (Some (lesser job (least_ripe now (drop left jobs)))) (least_ripe now (drop left jobs))) unripe)
    ∙ sym (ap (least_ripe now) (one_more jobs left at job is within here))

pub ends : (now : ℕ) (jobs : List Job) (left : ℕ) (least : Option Job) → left ≤ 0 → least ≡ least_ripe now (drop left jobs) → least ≡ least_ripe now jobs
ends now jobs left least done rest =
    let none : left ≡ 0 = omega (arith, done) in
    rest ∙ ap (λ n. least_ripe now (drop n jobs)) none

pub ruleset turns = (begins, ripe_first, unripe_first, ends)
