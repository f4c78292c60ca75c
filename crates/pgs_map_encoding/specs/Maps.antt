-- Scrub maps as bytes.
use Rattle.std.specs.Prelude.{ℕ, Bool, true, List, Result}
use Rattle.pgs_range.specs.declared.family_range.FamilyRange.{FamilyRange}
use Rattle.pgs_map.specs.declared.entry.Entry.{Entry}
use Rattle.pgs_map.specs.declared.scrub_map.ScrubMap.{ScrubMap}
use Rattle.pgs_codec.specs.Fields.{Field, u32, u64, fixed, followed, seen, read_whole}
use Rattle.pgs_map_encoding.specs.Chains.{chained}
use Rattle.pgs_map_encoding.specs.Bounds.{range}
use Rattle.pgs_map_encoding.specs.Entries.{entry, entry_spelling}

-- the bytes 0x4D and 1, by which a map begins
abbrev pub marks : Field (Unit {0} × Unit {0})
marks = followed (fixed 0x4D) (λ first. fixed 1)

-- whose map it is: its OSD, its scrub and its chunk
abbrev pub Whose : Type 0
Whose = ℕ × (ℕ × ℕ)

abbrev pub whose : Field Whose
whose = followed u32 (λ osd. followed u64 (λ serial. u64))

-- whose it is, the number that was needed and the number that was applied
abbrev pub Numbers : Type 0
Numbers = Whose × (ℕ × ℕ)

abbrev pub numbers : Field Numbers
numbers = followed whose (λ w. followed u64 (λ needed. u64))

-- the entries of a range behind their number, by ascending positions
abbrev pub entries : FamilyRange → Field (List Entry)
entries r = chained (λ n. true) entry_spelling (entry r)

abbrev pub MapParts : Type 0
MapParts = (Unit {0} × Unit {0}) × (Numbers × (FamilyRange × List Entry))

abbrev pub map_parts : Field MapParts
map_parts = followed marks (λ begun. followed numbers (λ n. followed range (λ r. entries r)))

abbrev pub map_of : MapParts → ScrubMap
map_of p = record {
  osd = p.1.0.0.0;
  serial = p.1.0.0.1.0;
  chunk = p.1.0.0.1.1;
  needed = p.1.0.1.0;
  applied = p.1.0.1.1;
  range = p.1.1.0;
  entries = p.1.1.1;
}

abbrev pub parts_of : ScrubMap → MapParts
parts_of m = ((tt, tt), (((m.osd, (m.serial, m.chunk)), (m.needed, m.applied)), (m.range, m.entries)))

-- A map: the marks, its numbers, its range, and its entries.
abbrev pub scrub_map : Field ScrubMap
scrub_map = seen map_of parts_of (λ m. true) map_parts

-- a map has a spelling: its numbers and names fit their fields, its range has a family between its bounds, and its entries ascend
-- in its range and each tell of one outcome
unfoldable pub map_fits : ScrubMap → Bool
map_fits = scrub_map.fits

unfoldable pub map_spelling : ScrubMap → List ℕ
map_spelling = scrub_map.spell

-- the map that a whole text spells, or the place at which the text is refused
unfoldable pub read_map : List ℕ → Result ScrubMap ℕ
read_map = read_whole scrub_map
