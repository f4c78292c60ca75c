-- How lines say what the queue answers.
use Rattle.std.specs.Prelude.{Option, Some, None}
use Rattle.pgs_chunk.specs.declared.kind.Kind.{Kind}
use Rattle.pgs_chunk.specs.declared.kind.Kind.TheVariants as kinds
use Rattle.pgs_lines.specs.declared.kind.Kind.{Kind as LineKind}
use Rattle.pgs_lines.specs.declared.kind.Kind.TheVariants as line_kinds
use Rattle.pgs_done.specs.declared.job_answer.JobAnswer.{JobAnswer as LineJob}
use Rattle.pgs_done.specs.declared.job_answer.JobAnswer.TheVariants as line_jobs
use Rattle.pgs_done.specs.declared.unjob_answer.UnjobAnswer.{UnjobAnswer as LineUnjob}
use Rattle.pgs_done.specs.declared.unjob_answer.UnjobAnswer.TheVariants as line_unjobs
use Rattle.pgs_done.specs.declared.pick_answer.PickAnswer.{PickAnswer as LinePick}
use Rattle.pgs_done.specs.declared.pick_answer.PickAnswer.TheVariants as line_picks
use Rattle.pgs_queue.specs.declared.add_answer.AddAnswer.{AddAnswer}
use Rattle.pgs_queue.specs.declared.add_answer.AddAnswer.TheVariants as adds
use Rattle.pgs_queue.specs.declared.job.Job.{Job}

-- no line asks for a scrub that mends
abbrev pub kind_said : Kind → LineKind
kind_said kinds.Shallow = line_kinds.Shallow
kind_said kind = line_kinds.Deep

abbrev pub job_said : AddAnswer → LineJob
job_said adds.Queued = line_jobs.Queued
job_said (adds.Already job) = line_jobs.Already (kind_said job.kind) job.rank job.not_before

abbrev pub unjob_said : Option Job → LineUnjob
unjob_said None = line_unjobs.None
unjob_said (Some job) = line_unjobs.Dropped

abbrev pub pick_said : Option Job → LinePick
pick_said None = line_picks.None
pick_said (Some job) = line_picks.Picked job.group (kind_said job.kind)
