-- Steps of every kind: the answer due, and the events after it.
use Rattle.std.specs.Prelude.{ℕ, ◌≡◌, false, List, length, reverse, Option, Some, None, option_map}
use Rattle.pgs_op_log.specs.Logs.{newer}
use Rattle.pgs_history.specs.Log.{log}
use Rattle.pgs_history.specs.Members.{pulled}
use Rattle.pgs_chunk.specs.Positions.{Ascends}
use Rattle.pgs_map.specs.Entries.{AreInRange}
use Rattle.pgs_history.specs.Acting.{IsActing}
use Rattle.pgs_history.specs.Scrubs.{IsBegun, start, limit_now}
use Rattle.pgs_history.specs.Answers.{submit_answer, admit_answer, collect_answer, last_number, ask, new_ask, tell_answer, begin_answer, reserve_answer, unopened, open_answer, take_answer, close_answer, fault_answer, interval_answer, primary}
use Rattle.pgs_history.specs.After.{gives, after_submit, after_admit, after_collect, after_pull, after_tell, after_begin, after_reserve, after_open, after_take, after_close, after_fault, after_interval}
use Rattle.pgs_history.specs.Parked.{next_admitted, is_admitting}
use Rattle.pgs_history.specs.Legal.{IsOfChunk, IsDenial}
use Rattle.pgs_history.specs.declared.open_answer.OpenAnswer.TheVariants as opens
use Rattle.pgs_history.specs.History.{History}
use Rattle.pgs_op.specs.declared.write.Write.{Write}
use Rattle.pgs_group.specs.declared.admitted.Admitted.{Admitted}
use Rattle.pgs_history.specs.declared.event.Event.{Event}
use Rattle.pgs_history.specs.declared.made.Made.{Made}
use Rattle.pgs_group.specs.declared.pulled.Pulled.{Pulled}
use Rattle.pgs_history.specs.declared.close_answer.CloseAnswer.{CloseAnswer}
use Rattle.pgs_history.specs.declared.close_answer.CloseAnswer.TheVariants as closes
use Rattle.pgs_group.specs.declared.close_told.CloseTold.{CloseTold}
use Rattle.pgs_group.specs.declared.close_told.CloseTold.TheVariants as told
use Rattle.pgs_group.specs.declared.next_chunk.NextChunk.{NextChunk}
use Rattle.pgs_group.specs.declared.next_chunk.NextChunk.TheVariants as nexts
use Rattle.pgs_group.specs.declared.step.Step.{Step}
use Rattle.pgs_group.specs.declared.step.Step.TheVariants as steps
use Rattle.pgs_group.specs.declared.step.Answer.{Answer}
use Rattle.pgs_group.specs.declared.step.Answer.TheVariants as answers

-- what a member is given that pulls: the items above those that it had, the oldest first, and what it is asked for; and whether any of it is new
abbrev pub pull_answer : Made → List Event → ℕ → Pulled
pull_answer made past osd = record {
  from = pulled past osd;
  to = last_number past;
  items = reverse (newer (pulled past osd) (log past));
  ask = ask made past osd;
  is_new = gives past osd (new_ask made past osd);
}

-- what is told of a write that was taken up
abbrev pub admitted_told : Made → List Event → Write → Admitted
admitted_told made past write = record { id = write.id; answer = admit_answer made past write }

-- that of the write that is taken up next, if one is
abbrev pub admit_told : Made → List Event → Option Admitted
admit_told made past = option_map (admitted_told made past) (next_admitted past)

-- what a caller is told of an answer: how much was found, and not what
abbrev pub close_told : CloseAnswer → CloseTold
close_told closes.NoChunk = told.NoChunk
close_told closes.ClosedBefore = told.ClosedBefore
close_told (closes.Preempted request) = told.Preempted request
close_told (closes.IntervalChanged old new) = told.IntervalChanged old new
close_told (closes.DeviceFault osd count) = told.DeviceFault osd count
close_told (closes.NotYet osd) = told.NotYet osd
close_told (closes.Closed report completes) = told.Closed (length report.found) (length report.snaps) completes

abbrev pub answer_of : History → Step → Answer
answer_of h (steps.Submit write) = answers.Submit (submit_answer h.made h.past write)
answer_of h steps.Admit = answers.Admit (admit_told h.made h.past)
answer_of h (steps.Collect id) = answers.Collect (collect_answer h.made h.past id)
answer_of h (steps.Pull osd) = answers.Pull (pull_answer h.made h.past osd)
answer_of h (steps.Tell osd applied) = answers.Tell (tell_answer h.past osd applied)
answer_of h (steps.Begin kind) = answers.Begin (begin_answer h.made h.past)
answer_of h (steps.Reserve serial osd denied) = answers.Reserve (reserve_answer h.made h.past serial osd denied)
answer_of h (steps.Open serial listed) = answers.Open (open_answer h.made h.past serial listed)
answer_of h (steps.Take place map) = answers.Take (take_answer h.past map)
answer_of h (steps.Close chunk) = answers.Close (close_told (close_answer h.made h.past chunk))
answer_of h (steps.Fault serial chunk osd count) = answers.Fault (fault_answer h.made h.past serial chunk)
answer_of h (steps.Interval osds) = answers.Interval (interval_answer h.made h.past osds)

abbrev pub after : History → Step → History
after h (steps.Submit write) = record h { past = after_submit h.made h.past write }
after h steps.Admit = record h { past = after_admit h.made h.past }
after h (steps.Collect id) = record h { past = after_collect h.made h.past id }
after h (steps.Pull osd) = record h { past = after_pull h.made h.past osd }
after h (steps.Tell osd applied) = record h { past = after_tell h.past osd applied }
after h (steps.Begin kind) = record h { past = after_begin h.made h.past kind }
after h (steps.Reserve serial osd denied) = record h { past = after_reserve h.made h.past serial osd denied }
after h (steps.Open serial listed) = record h { past = after_open h.made h.past serial listed }
after h (steps.Take place map) = record h { past = after_take h.past place map }
after h (steps.Close chunk) = record h { past = after_close h.made h.past chunk }
after h (steps.Fault serial chunk osd count) = record h { past = after_fault h.made h.past serial chunk osd count }
after h (steps.Interval osds) = record h { past = after_interval h.made h.past osds }

-- A step is one that a group may be asked for: writes that waited are taken up before anything else, a scrub that is named began, slots that are held are 1
-- to 8, lists and maps are in order, a map of the open chunk is of its families, and those that are to act are distinct members.
abbrev pub IsProper : History → Step → Type 0
IsProper h steps.Admit = Unit {0}
IsProper h (steps.Reserve serial osd denied) = (is_admitting h.past ≡ false) × IsBegun h.past serial × IsDenial denied
IsProper h (steps.Open serial listed) = (is_admitting h.past ≡ false) × IsBegun h.past serial × Ascends listed
IsProper h (steps.Take place map) = (is_admitting h.past ≡ false) × AreInRange map.range map.entries × IsOfChunk h.past map
IsProper h (steps.Fault serial chunk osd count) = (is_admitting h.past ≡ false) × IsBegun h.past serial
IsProper h (steps.Interval osds) = (is_admitting h.past ≡ false) × IsActing h.made osds
IsProper h step = is_admitting h.past ≡ false

-- what a caller is told that is to open the next chunk of a scrub: why none can be opened, or where and how it is
abbrev pub IsNextChunk : Made → List Event → ℕ → NextChunk → Type 0
IsNextChunk made past serial (nexts.Over cause) = unopened made past serial ≡ Some (opens.Over cause)
IsNextChunk made past serial (nexts.StillReserving osd) = unopened made past serial ≡ Some (opens.StillReserving osd)
IsNextChunk made past serial (nexts.Already chunk) = unopened made past serial ≡ Some (opens.Already chunk)
IsNextChunk made past serial (nexts.Next osd from limit) =
    (unopened made past serial ≡ None) × (primary made past ≡ Some osd) × (from ≡ start past) × (limit ≡ limit_now made past)
