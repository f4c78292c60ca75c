-- A map that is kept as its bytes.
use Rattle.std.specs.Prelude.{ℕ, ◌≡◌, List, [], Result, Ok, Err}
use Rattle.pgs_map.specs.declared.scrub_map.ScrubMap.{ScrubMap}
use Rattle.pgs_map_encoding.specs.Maps.{map_spelling, read_map}
use Rattle.pgs_range.specs.declared.bound.Bound.TheVariants.{Min, Max}

-- a map of nothing, for bytes that are no map
abbrev pub no_map : ScrubMap
no_map = record { osd = 0; serial = 0; chunk = 0; needed = 0; applied = 0; range = record { from = Min; to = Max }; entries = [] }

abbrev pub map_or_none : Result ScrubMap ℕ → ScrubMap
map_or_none (Ok map) = map
map_or_none (Err at) = no_map

abbrev pub map_in : List ℕ → ScrubMap
map_in text = map_or_none (read_map text)

-- bytes spell the map that they are read as
pub record IsEncoded (text : List ℕ) : Type 0 where
  pub spelled : text ≡ map_spelling (map_in text)
  pub again : read_map text ≡ Ok (map_in text)
