-- What is at the place of the chosen copy.
use Rattle.std.proofs.Common.{◌≡◌, ℕ, true, List, [], ◌∷◌, get_or, Option, Some, None, option_map, refl, sym, ap, ◌∙◌}
use Rattle.std.specs.Prelude.{slice_get}
use Rattle.std.specs.Option.{option_or, option_flatten}
use Rattle.std.proofs.lemmas.List.Quantifiers.{position-Some}
use Rattle.std.proofs.lemmas.Option.{slice_get-map, slice_get-get_or}
use Rattle.pgs_bytes.proofs.Facts.{both}
use Rattle.pgs_name.specs.declared.object_id.ObjectId.{ObjectId}
use Rattle.pgs_facts.specs.Facts.{facts_of}
use Rattle.pgs_map.specs.declared.entry.Entry.{Entry}
use Rattle.pgs_select.specs.Choice.{info_of, is_eligible, is_greatest, chosen_place, chosen_info, entry_in}
use Rattle.pgs_select.specs.Judging.{told, judged}
use Rattle.pgs_select.proofs.Judgings.{eligible_told, info_same}
use Rattle.pgs_compare.specs.Report.{first_told, seen_at, view_of}
use Rattle.pgs_compare.specs.Parts.{all_judged, info_of_judged, info_at, facts_of_judged, first_facts, facts_seen}

-- the chosen place has an entry, which is eligible
record IsChosen (id : ObjectId) (entries : List (Option Entry)) (place : ℕ) : Type 0 where
  entry : Option Entry
  here : slice_get entries place ≡ Some entry
  eligible : is_eligible id entry ≡ true

chosen_here : (id : ObjectId) (entries : List (Option Entry)) (place : ℕ) → chosen_place id entries ≡ Some place → IsChosen id entries place
chosen_here id entries place e =
    let found = position-Some (is_greatest id entries) entries place None e in
    record {
      entry = get_or entries place None;
      here = slice_get-get_or entries place None found.0;
      eligible = (both (is_eligible id (get_or entries place None)) _ found.1).0;
    }

copy_here : (id : ObjectId) (entries : List (Option Entry)) (place : ℕ) (entry : Option Entry) → slice_get entries place ≡ Some entry
    → slice_get (all_judged id entries) place ≡ Some (judged id entry)
copy_here id entries place entry e = slice_get-map (judged id) entries place ∙ ap (option_map (judged id)) e

-- the info of the chosen copy
pub info_chosen : (id : ObjectId) (entries : List (Option Entry)) (place : Option ℕ) → place ≡ chosen_place id entries → info_at (all_judged id entries) place ≡ chosen_info id entries
info_chosen id entries None e = ap (λ p. info_of (entry_in entries p)) e
info_chosen id entries (Some place) e =
    let h = chosen_here id entries place (sym e) in
    ap info_of_judged (copy_here id entries place h.entry h.here) ∙ info_same id h.entry h.eligible ∙ sym (ap (λ o. info_of (option_flatten o)) h.here)
    ∙ ap (λ p. info_of (entry_in entries p)) e

first_of_or : (a b : Option Entry) → option_or (option_map facts_of a) (option_map facts_of b) ≡ option_map facts_of (option_or a b)
first_of_or None b = refl
first_of_or (Some x) b = refl

first_seen : (id : ObjectId) (entries : List (Option Entry)) → first_facts (all_judged id entries) ≡ option_map facts_of (first_told entries)
first_seen id [] = refl
first_seen id (entry ∷ entries) = ap (option_or (option_map facts_of (told entry))) (first_seen id entries) ∙ first_of_or (told entry) (first_told entries)

-- the facts of the view
pub facts_chosen : (id : ObjectId) (entries : List (Option Entry)) (place : Option ℕ) → place ≡ chosen_place id entries
    → facts_seen (all_judged id entries) place ≡ (view_of id entries).facts
facts_chosen id entries None e = first_seen id entries ∙ ap (λ p. option_map facts_of (seen_at p entries)) e
facts_chosen id entries (Some place) e =
    let h = chosen_here id entries place (sym e) in
    ap facts_of_judged (copy_here id entries place h.entry h.here)
    ∙ ap (option_map facts_of) (eligible_told id h.entry h.eligible ∙ sym (ap option_flatten h.here))
    ∙ ap (λ p. option_map facts_of (seen_at p entries)) e
