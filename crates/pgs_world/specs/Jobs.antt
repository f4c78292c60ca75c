-- What becomes of the jobs that wait for a scrub.
use Rattle.std.specs.Prelude.{ℕ, ◌∷◌}
use Rattle.pgs_lines.specs.declared.kind.Kind.{Kind as LineKind}
use Rattle.pgs_done.specs.declared.done.Done.TheVariants as dones
use Rattle.pgs_queue.specs.Jobs.{job_of, without, with_job, add_answer, least_ripe, taken_out}
use Rattle.pgs_queue.specs.declared.job.Job.{Job}
use Rattle.pgs_placement.specs.Naming.{kind_of}
use Rattle.pgs_world.specs.Said.{job_said, unjob_said, pick_said}
use Rattle.pgs_world.specs.State.{WorldState}

abbrev pub job_for : ℕ → LineKind → ℕ → ℕ → Job
job_for group kind rank moment = record { group = group; kind = kind_of kind; rank = rank; not_before = moment }

-- a job of a group is to wait
abbrev pub after_queueing : WorldState → ℕ → LineKind → ℕ → ℕ → WorldState
after_queueing w group kind rank moment = record w {
  jobs = with_job w.jobs (job_for group kind rank moment);
  done = dones.Job group kind rank moment (job_said (add_answer w.jobs (job_for group kind rank moment))) ∷ w.done;
}

-- the job of a group waits no longer
abbrev pub after_dropping : WorldState → ℕ → WorldState
after_dropping w group = record w {
  jobs = without group w.jobs;
  done = dones.Unjob group (unjob_said (job_of group w.jobs)) ∷ w.done;
}

-- the first to be picked of the jobs that may be picked at a moment is taken out
abbrev pub after_picking : WorldState → ℕ → WorldState
after_picking w moment = record w {
  jobs = taken_out (least_ripe moment w.jobs) w.jobs;
  done = dones.Pick moment (pick_said (least_ripe moment w.jobs)) ∷ w.done;
}
