-- What the parts of the comparison are proved by.
use Rattle.std.specs.Borrow.{Bor}
use Rattle.std.specs.Prelude.{ℕ, Bool, false, ◌&&◌, List, [], ◌∷◌, map, Option, Some, None, is_none, slice_get}
use Rattle.std.specs.Option.{option_copied, option_or}
use Rattle.pgs_name.specs.declared.object_id.ObjectId.{ObjectId}
use Rattle.pgs_copy.specs.Copies.{info_name, snapset_name}
use Rattle.pgs_copy.specs.Pairs.{Pairs, value_at}
use Rattle.pgs_facts.specs.declared.copy_facts.CopyFacts.{CopyFacts}
use Rattle.pgs_info.specs.declared.info.ObjectInfo.{ObjectInfo}
use Rattle.pgs_map.specs.declared.entry.Entry.{Entry}
use Rattle.pgs_map.specs.declared.scrub_map.ScrubMap.{ScrubMap}
use Rattle.pgs_find.specs.declared.object_error.ObjectError.{ObjectError}
use Rattle.pgs_select.specs.Judging.{told, judged, info_told}
use Rattle.pgs_select.specs.declared.judged.Judged.{Judged}
use Rattle.pgs_compare.specs.Objects.{are_other, is_user, differs}
use Rattle.pgs_compare.specs.declared.attr_names.AttrNames.{AttrNames}

-- ---- values behind references

-- the entries of a position, where there are some
abbrev pub entries_seen : List (Option (Bor Entry)) → List (Option Entry)
entries_seen entries = map option_copied entries

-- the maps of all acting OSDs
abbrev pub maps_seen : List (Bor ScrubMap) → List ScrubMap
maps_seen maps = map (λ m. m.now) maps

-- ---- the copies among each other

-- the names of the attributes that aren't a user's
abbrev pub attr_names : AttrNames
attr_names = record { info = info_name; snapset = snapset_name }

-- a user attribute of the first has another value among some pairs
abbrev pub has_other_value : Pairs → List ℕ × List ℕ → Bool
has_other_value b p = is_user p.0 && are_other (Some p.1) (value_at p.0 b)

-- a user attribute isn't among some pairs
abbrev pub misses_name : Pairs → List ℕ × List ℕ → Bool
misses_name b p = is_user p.0 && is_none (value_at p.0 b)

-- an entry is there, was told, and passes a test
abbrev pub passes_told : (Entry → Bool) → Option Entry → Bool
passes_told test None = false
passes_told test (Some entry) = test entry

-- a name holds of the chosen copy and another one, where that was told
abbrev pub told_differs : ObjectId → Entry → ObjectError → Option Entry → Bool
told_differs id chosen name other = passes_told (λ entry. differs id chosen entry name) (told other)

-- ---- judged copies

-- what is known of each copy of a position
abbrev pub all_judged : ObjectId → List (Option Entry) → List Judged
all_judged id entries = map (judged id) entries

-- the info of a judged copy
abbrev pub info_of_judged : Option Judged → Option ObjectInfo
info_of_judged None = None
info_of_judged (Some copy) = info_told copy

-- the info of the copy at a place
abbrev pub info_at : List Judged → Option ℕ → Option ObjectInfo
info_at copies None = None
info_at copies (Some place) = info_of_judged (slice_get copies place)

-- the facts of a judged copy
abbrev pub facts_of_judged : Option Judged → Option CopyFacts
facts_of_judged None = None
facts_of_judged (Some copy) = copy.facts

-- the first facts that were told
abbrev pub first_facts : List Judged → Option CopyFacts
first_facts [] = None
first_facts (copy ∷ copies) = option_or copy.facts (first_facts copies)

-- the facts of the copy at a place, or else the first that were told
abbrev pub facts_seen : List Judged → Option ℕ → Option CopyFacts
facts_seen copies None = first_facts copies
facts_seen copies (Some place) = facts_of_judged (slice_get copies place)
