-- Readers and writers of std as sources and sinks.
use Rattle.std.specs.Prelude.{ℕ, Bool, true, ◌==◌, ◌&&◌, nat_lt, Result, Ok, Err}
use Rattle.pgs_edge.specs.declared.std_source.StdSource.{StdSource}
use Rattle.pgs_edge.specs.declared.std_sink.StdSink.{StdSink}

-- the reader of a source
abbrev pub reader_of : {R : Type 0} → StdSource R → R
reader_of source = source.reader

-- the faults that a source counted
abbrev pub read_faults : {R : Type 0} → StdSource R → ℕ
read_faults source = source.faults

-- the writer of a sink
abbrev pub writer_of : {W : Type 0} → StdSink W → W
writer_of sink = sink.writer

-- the faults that a sink counted
abbrev pub write_faults : {W : Type 0} → StdSink W → ℕ
write_faults sink = sink.faults

-- a write is a fault where it fails, or takes none of a piece with bytes
abbrev pub is_write_fault : {E : Type 0} → Result ℕ E → ℕ → Bool
is_write_fault (Ok count) len = (count == 0) && nat_lt 0 len
is_write_fault (Err e) len = true
