-- Where the scrubs of a group are, by its events.
use Rattle.std.specs.Prelude.{List, None, if◌then◌else◌}
use Rattle.pgs_history.specs.Scrubs.{begun, current, opened, open_chunk, start, used, end_of, last_kind}
use Rattle.pgs_history.specs.Answers.{is_last}
use Rattle.pgs_history.specs.Findings.{findings}
use Rattle.pgs_history.specs.declared.event.Event.{Event}
use Rattle.pgs_group.specs.declared.scrubbing.Scrubbing.{Scrubbing}

abbrev pub scrubbing : List Event → Scrubbing
scrubbing past = record {
  begun = begun past;
  opened = opened past;
  current = current past;
  open_chunk = open_chunk past;
  start = start past;
  used = used past;
  kind = last_kind past;
  findings = findings past;
}

-- after the open chunk, if there is one, was closed
abbrev pub closed : Scrubbing → Scrubbing
closed s = record s {
  current = if is_last s.open_chunk then None else s.current;
  open_chunk = None;
  start = end_of s.open_chunk s.start;
}
