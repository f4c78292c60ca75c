use Rattle.std.proofs.Common.{◌≡◌, ◌++◌, map, drop}
use Rattle.serde_json.specs.Data.{string}
use Rattle.serde_json.specs.View.{view}
use Rattle.pgs_find.specs.SnapNames.{has_snap, snap_word, snap_names_of}
use Rattle.pgs_list_json.proofs.Turns.{words_left}
use Rattle.pgs_list_json.proofs.words.snap_words.Given as goal

-- the words so far, and those of the rows that are left
abbrev pub invariant-loop-row : goal.invariant-loop-row
invariant-loop-row l =
    map view l.list.items ++ words_left (λ row. row.name) (has_snap l.errors) snap_word (drop l.row-index l.row-items)
    ≡ map (λ name. string (snap_word name)) (snap_names_of l.errors)
