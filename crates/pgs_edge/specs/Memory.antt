-- Sources and sinks in memory.
use Rattle.std.specs.Prelude.{ℕ, min, List, if◌then◌else◌}
use Rattle.pgs_edge.specs.Calls.{one_more, is_named}

-- A source in memory: the bytes left, the most that a call gives, the numbers of the calls that fail, the calls made, the faults.
pub record SourceState : Type 0 where
  pub left : List ℕ
  pub piece : ℕ
  pub failing : List ℕ
  pub calls : ℕ
  pub faults : ℕ

-- A sink in memory: the bytes taken, the most that a call takes, the numbers of the calls that fail, those of the calls that take nothing, the calls made, the faults.
pub record SinkState : Type 0 where
  pub taken : List ℕ
  pub piece : ℕ
  pub failing : List ℕ
  pub idle : List ℕ
  pub calls : ℕ
  pub faults : ℕ

-- how many of the bytes of a piece the next call takes, if it doesn't fail
abbrev pub sink_count : SinkState → ℕ → ℕ
sink_count sink len = if is_named sink.idle (one_more sink.calls) then 0 else min sink.piece len

-- the faults after the next call, if it doesn't fail
abbrev pub sink_faults : SinkState → ℕ
sink_faults sink = if is_named sink.idle (one_more sink.calls) then one_more sink.faults else sink.faults
