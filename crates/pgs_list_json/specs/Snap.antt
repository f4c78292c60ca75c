-- The list of heads and clones of which the snapshots are inconsistent.
use Rattle.std.specs.Prelude.{ℕ, List, [], ◌∷◌, Option, Some, codes}
use Rattle.serde_json.specs.Data.{Data, number, unsigned}
use Rattle.serde_json.specs.Written.{compact_text}
use Rattle.pgs_find.specs.SnapNames.{snap_word, snap_names_of, has_snap}
use Rattle.pgs_find.specs.declared.snap_error.SnapError.TheVariants.{CloneMissing, ExtraClones}
use Rattle.pgs_find.specs.declared.snap_finding.SnapFinding.{SnapFinding}
use Rattle.pgs_list_json.specs.Members.{object_of, array_of, words_data, numbers_data, only_where}
use Rattle.pgs_list_json.specs.Object.{text_data, locator_data, snap_data}

-- One finding. The snaps of extra and of missing clones stand exactly where the finding has the error of that name. They are numbers,
-- that of a head too.
abbrev pub snap_finding_table : SnapFinding → List (List ℕ × Option Data)
snap_finding_table finding =
    (codes "errors", Some (words_data snap_word (snap_names_of finding.errors)))
    ∷ (codes "extra_clones", only_where (has_snap finding.errors ExtraClones) (numbers_data finding.extra))
    ∷ (codes "locator", Some (locator_data finding.id))
    ∷ (codes "missing", only_where (has_snap finding.errors CloneMissing) (numbers_data finding.missing))
    ∷ (codes "name", Some (text_data finding.id.family.name))
    ∷ (codes "nspace", Some (text_data finding.id.family.space))
    ∷ (codes "snap", Some (snap_data finding.id.snap))
    ∷ []

unfoldable pub snap_finding_data : SnapFinding → Data
snap_finding_data finding = object_of (snap_finding_table finding)

-- the epoch, and the findings in the order given
abbrev pub list_snap_table : ℕ → List SnapFinding → List (List ℕ × Option Data)
list_snap_table epoch findings =
    (codes "epoch", Some (number (unsigned epoch)))
    ∷ (codes "inconsistents", Some (array_of snap_finding_data findings))
    ∷ []

unfoldable pub list_snap_data : ℕ → List SnapFinding → Data
list_snap_data epoch findings = object_of (list_snap_table epoch findings)

-- its text, with no space
abbrev pub list_snap_text : ℕ → List SnapFinding → List ℕ
list_snap_text epoch findings = compact_text (list_snap_data epoch findings)
