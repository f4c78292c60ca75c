-- The other copies of a position.
use Rattle.std.proofs.Common.{Bor, map, ◌≡◌, ℕ, suc, ◌+◌, Bool, ◌||◌, List, [], ◌∷◌, ◌++◌, take, drop, get_or, length, ◌<◌, Option, Some, None, refl, sym, ap, ◌∙◌, arith}
use Rattle.std.specs.List.{list_any, filter_map, cons_option}
use Rattle.std.specs.Option.{option_copied}
use Rattle.std.proofs.lemmas.List.{take-map, drop_more}
use Rattle.std.proofs.lemmas.List.Elements.{filter_map-append}
use Rattle.std.proofs.lemmas.List.Folds.{list_any-append}
use Rattle.std.specs.List.{drop-map}
use Rattle.pgs_name.specs.declared.object_id.ObjectId.{ObjectId}
use Rattle.pgs_map.specs.declared.entry.Entry.{Entry}
use Rattle.pgs_find.specs.ObjectNames.{noted_object, all_object}
use Rattle.pgs_find.specs.declared.object_error.ObjectError.{ObjectError}
use Rattle.pgs_find.specs.declared.object_errors.ObjectErrors.{ObjectErrors}
use Rattle.pgs_select.specs.Judging.{told}
use Rattle.pgs_compare.specs.Objects.{differs, others}
use Rattle.pgs_compare.specs.Parts.{entries_seen, passes_told, told_differs}

any_put : (p : Entry → Bool) (o : Option Entry) (xs : List Entry) → list_any p (cons_option o xs) ≡ (passes_told p o || list_any p xs)
any_put p None xs = refl
any_put p (Some x) xs = refl

any_told : (p : Entry → Bool) (entries : List (Option (Bor Entry))) → list_any p (filter_map told (entries_seen entries)) ≡ list_any (λ o. passes_told p (told (option_copied o))) entries
any_told p [] = refl
any_told p (o ∷ entries) =
    any_put p (told (option_copied o)) (filter_map told (entries_seen entries)) ∙ ap (λ b. passes_told p (told (option_copied o)) || b) (any_told p entries)

-- a name holds of one before or one behind
pub some_other : (id : ObjectId) (chosen : Entry) (name : ObjectError) (front behind : List (Option (Bor Entry)))
    → (list_any (λ o. told_differs id chosen name (option_copied o)) front || list_any (λ o. told_differs id chosen name (option_copied o)) behind)
    ≡ list_any (λ other. differs id chosen other name) (filter_map told (entries_seen front ++ entries_seen behind))
some_other id chosen name front behind =
    let p : Entry → Bool = λ other. differs id chosen other name in
    sym
    (ap (list_any p) (filter_map-append told (entries_seen front) (entries_seen behind))
    ∙ list_any-append p (filter_map told (entries_seen front)) (filter_map told (entries_seen behind))
    ∙ (λ i. any_told p front i || any_told p behind i))

-- those before a place and behind it are all others
pub all_others : (place : ℕ) (entries : List (Option (Bor Entry))) → filter_map told (entries_seen (take place entries) ++ entries_seen (drop (place + 1) entries)) ≡ others place (entries_seen entries)
all_others place entries =
    let next : place + 1 ≡ suc place = omega arith in
    λ i. filter_map told (sym (take-map option_copied place entries) i ++ (ap (λ n. entries_seen (drop n entries)) next ∙ sym (drop-map option_copied (suc place) entries)) i)

-- ---- the names, one after another

pub name_next : {A : Type 0} (name : A → ObjectError) (test : ObjectError → Bool) (rows : List A) (at : ℕ) (d : A) (so : Bool) (errors new all : ObjectErrors) → at < length rows
    → so ≡ test (name (get_or rows at d)) → new ≡ noted_object (name (get_or rows at d)) so errors → all_object test (map name (drop at rows)) errors ≡ all
    → all_object test (map name (drop (at + 1) rows)) new ≡ all
name_next name test rows at d so errors new all within is e h =
    ap (all_object test (map name (drop (at + 1) rows))) (e ∙ ap (λ b. noted_object (name (get_or rows at d)) b errors) is)
    ∙ sym (ap (λ rs. all_object test (map name rs) errors) (drop_more rows at d within)) ∙ h
