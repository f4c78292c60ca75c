-- What ended the scrubs of a group, by its events, the newest first.
use Rattle.std.specs.Prelude.{ℕ, ◌+◌, ◌-◌, List, [], ◌∷◌, ◌++◌, length, Option, Some, None, if◌then◌else◌, slice_get}
use Rattle.pgs_history.specs.Acting.{epoch}
use Rattle.pgs_history.specs.declared.end.End.{End}
use Rattle.pgs_history.specs.declared.end.End.TheVariants.{Completed, Denied, IntervalChanged, DeviceFault}
use Rattle.pgs_history.specs.declared.cause.Cause.{Cause}
use Rattle.pgs_slots.specs.declared.holder.Holder.{Holder}
use Rattle.pgs_history.specs.declared.reserve_answer.ReserveAnswer.TheVariants.{DeniedNow}
use Rattle.pgs_history.specs.declared.close_answer.CloseAnswer.TheVariants.{Closed}
use Rattle.pgs_history.specs.declared.fault_answer.FaultAnswer.TheVariants.{Ended}
use Rattle.pgs_history.specs.declared.interval_answer.IntervalAnswer.TheVariants.{Changed}
use Rattle.pgs_history.specs.declared.event.Event.{Event}
use Rattle.pgs_history.specs.declared.event.Event.TheVariants.{Reserve, Close, Fault, Interval}
use Rattle.pgs_history.specs.declared.made.Made.{Made}

-- one cause more
abbrev pub with_cause : ℕ → End → List Cause → List Cause
with_cause place end causes = causes ++ record { place = place; end = end } ∷ []

-- one more, where a scrub ended
abbrev pub where_ended : Option ℕ → ℕ → End → List Cause → List Cause
where_ended None place end causes = causes
where_ended (Some serial) place end causes = with_cause place end causes

-- what the slots held where a claim was denied
abbrev pub holders_of : Option (List Holder) → List Holder
holders_of None = []
holders_of (Some holders) = holders

abbrev pub causes_after : Event → ℕ → ℕ → List Cause → List Cause
causes_after (Reserve serial osd denied (DeniedNow other)) old place causes = with_cause place (Denied other (holders_of denied)) causes
causes_after (Close chunk (Closed report completes)) old place causes = if completes then with_cause place (Completed chunk) causes else causes
causes_after (Fault serial chunk osd count Ended) old place causes = with_cause place (DeviceFault osd count) causes
causes_after (Interval osds (Changed new ends)) old place causes = where_ended ends place (IntervalChanged old new) causes
causes_after event old place causes = causes

-- What ended the scrubs, in the order of their numbers: each but the one that reserves or runs has a cause. Its place is the number of events up to the
-- one that ended the scrub, that one included.
abbrev pub causes : Made → List Event → List Cause
causes made [] = []
causes made (event ∷ past) = causes_after event (epoch made past) (length past + 1) (causes made past)

-- what ended the scrub of a number
abbrev pub cause : Made → List Event → ℕ → Option Cause
cause made past serial = slice_get (causes made past) (serial - 1)
