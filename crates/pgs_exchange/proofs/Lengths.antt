-- How long a bound's spelling is.
use Rattle.std.proofs.Common.{◌≡◌, ℕ, ◌+◌, ◌≤◌, true, List, ◌++◌, length, arith, length-append}
use Rattle.std.specs.Prelude.{nat_le}
use Rattle.std.proofs.lemmas.Bool.Decides.{nat_tests}
use Rattle.pgs_bytes.proofs.Facts.{both}
use Rattle.pgs_codec.specs.Fields.{u32, text, spelled_text}
use Rattle.pgs_codec.specs.Ids.{word}
use Rattle.pgs_map.specs.declared.scrub_map.ScrubMap.{ScrubMap}
use Rattle.pgs_map_encoding.specs.Bounds.{family_parts, parts_of_family, is_placed, family, bound, range}
use Rattle.pgs_map_encoding.specs.Maps.{marks, numbers, entries, map_parts, parts_of, map_fits}
use Rattle.pgs_name.specs.Families.{Family}
use Rattle.pgs_range.specs.declared.bound.Bound.TheVariants.{At}

text_length : (w : List ℕ) → length (spelled_text w) ≡ 4 + length w
text_length w = length-append (u32.spell (length w)) w

le_is : (n most : ℕ) → nat_le n most ≡ true → n ≤ most
le_is n most e = grind (arith, nat_tests)

short : (most : ℕ) (w : List ℕ) → (text most).fits w ≡ true → length w ≤ most
short most w e = le_is (length w) most (both _ _ e).1

pub family_length : (f : Family) (space key name : ℕ) → space ≡ length f.space → key ≡ length (parts_of_family f).1.0 → name ≡ length f.name
    → ((12 + space) + key) + name ≡ length (family.spell f)
family_length f space key name s k n =
    let p = parts_of_family f in
    let last = length-append (spelled_text p.1.0) (spelled_text p.1.1) in
    let whole = length-append (spelled_text p.0) (spelled_text p.1.0 ++ spelled_text p.1.1) in
    omega (arith, s, k, n, last, whole, text_length p.0, text_length p.1.0, text_length p.1.1)

pub family_few : (f : Family) (space key name : ℕ) → family.fits f ≡ true → space ≡ length f.space → key ≡ length (parts_of_family f).1.0 → name ≡ length f.name
    → ((12 + space) + key) + name ≤ 586
family_few f space key name fits s k n =
    let p = parts_of_family f in
    let parts = (both (family_parts.fits p) (is_placed f) fits).0 in
    let first = both ((word 64).fits p.0) _ parts in
    let second = both ((word 255).fits p.1.0) _ first.1 in
    let a = short 64 p.0 (both _ _ first.0).0 in
    let b = short 255 p.1.0 (both _ _ second.0).0 in
    let c = short 255 p.1.1 (both _ _ second.1).0 in
    omega (arith, s, k, n, a, b, c)

pub ruleset places = (family_length, family_few)

pub family_fits : (f : Family) → bound.fits (At f) ≡ true → family.fits f ≡ true
family_fits f e = (both (family.fits f) true e).0

pub from_fits : (map : ScrubMap) → map_fits map ≡ true → bound.fits map.range.from ≡ true
unfolding map_fits
from_fits map e =
    let p = parts_of map in
    let parts = (both (map_parts.fits p) true e).0 in
    let behind = (both (marks.fits p.0) _ parts).1 in
    let ranged = (both (numbers.fits p.1.0) _ behind).1 in
    let bounds = (both (range.fits map.range) ((entries map.range).fits map.entries) ranged).0 in
    (both (bound.fits map.range.from) _ (both _ true bounds).0).0
