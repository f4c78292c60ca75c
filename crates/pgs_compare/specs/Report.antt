-- What is found in a range: a table over all positions and copies.
use Rattle.std.specs.Prelude.{ℕ, List, [], ◌∷◌, map, Option, Some, None, option_map}
use Rattle.std.specs.List.{filter_map, AllByRecursion}
use Rattle.std.specs.Option.{option_or}
use Rattle.pgs_name.specs.declared.object_id.ObjectId.{ObjectId}
use Rattle.pgs_chunk.specs.Listings.{placed}
use Rattle.pgs_map.specs.Entries.{AreAscending, entry_at}
use Rattle.pgs_map.specs.declared.entry.Entry.{Entry}
use Rattle.pgs_map.specs.declared.scrub_map.ScrubMap.{ScrubMap}
use Rattle.pgs_facts.specs.Facts.{facts_of}
use Rattle.pgs_select.specs.Choice.{chosen_place, entry_in}
use Rattle.pgs_snapcheck.specs.Check.{snap_findings}
use Rattle.pgs_snapcheck.specs.declared.view.View.{View}
use Rattle.pgs_select.specs.Judging.{told}
use Rattle.pgs_compare.specs.Finding.{finding}
use Rattle.pgs_compare.specs.declared.report.Report.{Report}

-- ---- the positions of maps

-- some positions, and those of entries, each once and in order
abbrev pub with_entries : List ObjectId → List Entry → List ObjectId
with_entries ids [] = ids
with_entries ids (entry ∷ entries) = with_entries (placed entry.id ids) entries

-- some positions, and those of the entries of maps
abbrev pub with_maps : List ObjectId → List ScrubMap → List ObjectId
with_maps ids [] = ids
with_maps ids (map ∷ maps) = with_maps (with_entries ids map.entries) maps

-- the positions that have an entry in some map, also in one that isn't the primary's
abbrev pub positions_of : List ScrubMap → List ObjectId
positions_of maps = with_maps [] maps

-- the entries of each map stand in the order of their positions
abbrev pub AreOrdered : List ScrubMap → Type 0
AreOrdered maps = AllByRecursion (λ m. AreAscending m.entries) maps

-- the entries of a position, one for each map
abbrev pub entries_at : List ScrubMap → ObjectId → List (Option Entry)
entries_at maps id = map (λ m. entry_at id m.entries) maps

-- ---- the views that the snapshots are checked on

-- the first entry that was told
abbrev pub first_told : List (Option Entry) → Option Entry
first_told [] = None
first_told (entry ∷ entries) = option_or (told entry) (first_told entries)

-- a place's entry where a copy is chosen, and else the first that was told
abbrev pub seen_at : Option ℕ → List (Option Entry) → Option Entry
seen_at (Some place) entries = entry_in entries (Some place)
seen_at None entries = first_told entries

-- The view of a position: the chosen copy, or else that of the first acting OSD of which one was told. There may be none, and the position is there all the same.
abbrev pub view_of : ObjectId → List (Option Entry) → View
view_of id entries = record { id = id; facts = option_map facts_of (seen_at (chosen_place id entries) entries) }

-- ---- the report

-- each position that any map has and for which a name holds, in order; and what the check of the snapshots finds on the views
abbrev pub report : List ℕ → ℕ → List ScrubMap → Report
report acting version maps = record {
  found = filter_map (λ id. finding acting version id (entries_at maps id)) (positions_of maps);
  snaps = snap_findings (map (λ id. view_of id (entries_at maps id)) (positions_of maps));
}
