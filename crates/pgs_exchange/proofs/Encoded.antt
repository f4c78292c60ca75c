-- Bytes that a map was encoded as are read as it.
use Rattle.std.proofs.Common.{◌≡◌, ℕ, List, Ok, sym, ap, ◌∙◌}
use Rattle.pgs_map.specs.declared.scrub_map.ScrubMap.{ScrubMap}
use Rattle.pgs_map_encoding.specs.Maps.{map_spelling, read_map}
use Rattle.pgs_exchange.specs.Encoded.{map_or_none, map_in, IsEncoded}

pub map_is : (text : List ℕ) (map : ScrubMap) → read_map text ≡ Ok map → map_in text ≡ map
map_is text map e = ap map_or_none e

pub encoded : (text : List ℕ) (map : ScrubMap) → text ≡ map_spelling map → read_map text ≡ Ok map → IsEncoded text
encoded text map spelled again = record {
  spelled = spelled ∙ ap map_spelling (sym (map_is text map again));
  again = again ∙ ap Ok (sym (map_is text map again));
}
