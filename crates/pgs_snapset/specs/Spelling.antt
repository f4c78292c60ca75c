-- Snapsets as bytes.
use Rattle.std.specs.Prelude.{ℕ, Bool, true, List, Option, Some, None, Result}
use Rattle.std.specs.Result.{result_ok}
use Rattle.pgs_codec.specs.Fields.{Field, u64, fixed, followed, seen, counted, read_whole}
use Rattle.pgs_snapset.specs.declared.clone_facts.CloneFacts.{CloneFacts}
use Rattle.pgs_snapset.specs.declared.snapset.SnapSet.{SnapSet}

-- a clone: its snap, its size, and its snaps behind their number
abbrev pub clone : Field CloneFacts
clone =
    seen (λ p. record { snap = p.0; size = p.1.0; snaps = p.1.1 }) (λ c. (c.snap, (c.size, c.snaps))) (λ c. true)
    (followed u64 (λ snap. followed u64 (λ size. counted u64)))

-- the bytes 0x53 and 1, by which a snapset begins
abbrev pub marks : Field (Unit {0} × Unit {0})
marks = followed (fixed 0x53) (λ first. fixed 1)

-- A snapset: the marks, its seq, and its clones behind their number.
abbrev pub snapset : Field SnapSet
snapset =
    seen (λ p. record { seq = p.1.0; clones = p.1.1 }) (λ s. ((tt, tt), (s.seq, s.clones))) (λ s. true)
    (followed marks (λ begun. followed u64 (λ seq. counted clone)))

-- a snapset has a spelling: its numbers and counts fit their fields
unfoldable pub snapset_fits : SnapSet → Bool
snapset_fits = snapset.fits

unfoldable pub snapset_spelling : SnapSet → List ℕ
snapset_spelling = snapset.spell

-- the snapset that a whole text spells, or the place at which the text is refused
unfoldable pub read_snapset : List ℕ → Result SnapSet ℕ
read_snapset = read_whole snapset

-- the snapset in an attribute, if it is there and reads
abbrev pub snapset_in : Option (List ℕ) → Option SnapSet
snapset_in None = None
snapset_in (Some text) = result_ok (read_snapset text)
