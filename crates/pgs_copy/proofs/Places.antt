-- Effects that are applied in place: attributes that are there stay there.
use Rattle.std.proofs.Common.{ℕ, ◌≡◌, ◌==◌, Bool, true, false, cond, not, ◌&&◌, List, [], ◌∷◌, Option, Some, None, refl, sym, ap, subst, ◌∙◌}
use Rattle.std.specs.Prelude.{is_some}
use Rattle.std.specs.List.{list_all}
use Rattle.std.specs.Ordering.{nat_cmp}
use Rattle.std.specs.Cmp.Lexicographic.{slice_cmp, texts_ties, bytes_decides}
use Rattle.std.specs.BTreeMap.{is_at}
use Rattle.pgs_bytes.specs.Texts.{same_text}
use Rattle.pgs_bytes.proofs.Facts.{both, true_false}
use Rattle.pgs_name.specs.declared.object_id.TheConstants.{HEAD}
use Rattle.pgs_copy.specs.declared.obj_copy.ObjCopy.{ObjCopy}
use Rattle.pgs_copy.specs.declared.effect.Effect.{Effect}
use Rattle.pgs_copy.specs.declared.effect.Effect.TheVariants.{Clear, SetData, Write, Truncate, SetAttr, RmAttr, SetOmap, RmOmap, SetHeader, Clone, Remove, Install}
use Rattle.pgs_copy.specs.Copies.{affected, after_effect, after_effects}
use Rattle.pgs_copy.specs.InPlace.{is_edit, keeps_attr, has_attr, is_change, is_in_place, IsThere, AreThere}
use Rattle.pgs_copy.proofs.Laws.{same_copies}
use Rattle.pgs_copy.proofs.PairLaws.{put_keeps, removal_keeps}

-- names that are told apart aren't both found at one key
apart : (name other : List ℕ) → not (same_text name other) ≡ true
    → (key : List ℕ) → is_at (slice_cmp nat_cmp name) key ≡ true → is_at (slice_cmp nat_cmp other) key ≡ true → ⊥
apart name other e key here there =
    let a = (bytes_decides name key).0 (texts_ties name key ∙ here) in
    let b = (bytes_decides other key).0 (texts_ties other key ∙ there) in
    true_false (sym e ∙ ap not ((bytes_decides name other).1 (a ∙ sym b)))

-- an effect on a part of a copy leaves the attributes that it doesn't take away
edit_keeps : (effect : Effect) (head copy : Option ObjCopy) (name : List ℕ) → is_edit effect ≡ true → keeps_attr effect name ≡ true
    → has_attr copy name ≡ true → has_attr (affected effect head copy) name ≡ true
edit_keeps effect head None name e k there = absurd (true_false (sym there))
edit_keeps Clear head (Some c) name e k there = absurd (true_false (sym e))
edit_keeps (SetData bytes) head (Some c) name e k there = there
edit_keeps (Write at bytes) head (Some c) name e k there = there
edit_keeps (Truncate size) head (Some c) name e k there = there
edit_keeps (SetAttr attr value) head (Some c) name e k there = put_keeps (slice_cmp nat_cmp) (is_at (slice_cmp nat_cmp name)) c.attrs attr value there
edit_keeps (RmAttr attr) head (Some c) name e k there =
    removal_keeps (is_at (slice_cmp nat_cmp attr)) (is_at (slice_cmp nat_cmp name)) c.attrs (apart attr name k) there
edit_keeps (SetOmap key value) head (Some c) name e k there = there
edit_keeps (RmOmap key) head (Some c) name e k there = there
edit_keeps (SetHeader bytes) head (Some c) name e k there = there
edit_keeps (Clone info) head (Some c) name e k there = absurd (true_false (sym e))
edit_keeps Remove head (Some c) name e k there = absurd (true_false (sym e))
edit_keeps (Install copy) head (Some c) name e k there = absurd (true_false (sym e))

kept_there : (snap : ℕ) (effect : Effect) (copies : ℕ → Option ObjCopy) (q : ℕ) (name : List ℕ) → is_edit effect ≡ true → keeps_attr effect name ≡ true
    → has_attr (copies q) name ≡ true → has_attr (after_effect snap effect copies q) name ≡ true
kept_there snap effect copies q name e k there = by (snap == q)
  where
    by : (b : Bool) → has_attr (cond b (affected effect (copies HEAD) (copies q)) (copies q)) name ≡ true
    by true = edit_keeps effect (copies HEAD) (copies q) name e k there
    by false = there

-- a change that was there before the first effect is there behind it
change_there : (snap : ℕ) (first : Effect) (copies : ℕ → Option ObjCopy) (q : ℕ) (change : Effect) → is_edit first ≡ true
    → is_change first (copies q) change ≡ true → IsThere (after_effect snap first copies q) change
change_there snap first copies q (SetAttr name value) e h =
    let k = both (keeps_attr first name) (has_attr (copies q) name) h in kept_there snap first copies q name e k.0 k.1
change_there snap first copies q Clear e h = absurd (true_false (sym h))
change_there snap first copies q (SetData bytes) e h = absurd (true_false (sym h))
change_there snap first copies q (Write at bytes) e h = absurd (true_false (sym h))
change_there snap first copies q (Truncate size) e h = absurd (true_false (sym h))
change_there snap first copies q (RmAttr name) e h = absurd (true_false (sym h))
change_there snap first copies q (SetOmap key value) e h = absurd (true_false (sym h))
change_there snap first copies q (RmOmap key) e h = absurd (true_false (sym h))
change_there snap first copies q (SetHeader bytes) e h = absurd (true_false (sym h))
change_there snap first copies q (Clone info) e h = absurd (true_false (sym h))
change_there snap first copies q Remove e h = absurd (true_false (sym h))
change_there snap first copies q (Install copy) e h = absurd (true_false (sym h))

changes_there : (snap : ℕ) (first : Effect) (copies : ℕ → Option ObjCopy) (rest : List (ℕ × Effect)) → is_edit first ≡ true
    → list_all (λ e. is_change first (copies e.0) e.1) rest ≡ true → AreThere rest (after_effect snap first copies)
changes_there snap first copies [] e h = tt
changes_there snap first copies (x ∷ xs) e h =
    let k = both (is_change first (copies x.0) x.1) (list_all (λ e. is_change first (copies e.0) e.1) xs) h in
    (change_there snap first copies x.0 x.1 e k.0, changes_there snap first copies xs e k.1)

-- of effects that are applied in place, all behind the first change what is there
pub rest_there : (snap : ℕ) (first : Effect) (rest : List (ℕ × Effect)) (copies next : ℕ → Option ObjCopy) → is_in_place (snap, first) rest copies ≡ true
    → ((q : ℕ) → next q ≡ after_effect snap first copies q) → AreThere rest next
rest_there snap first rest copies next h is =
    let outer = both (is_edit first && is_some (copies snap)) (list_all (λ e. is_change first (copies e.0) e.1) rest) h in
    let inner = both (is_edit first) (is_some (copies snap)) outer.0 in
    subst (AreThere rest) (sym (same_copies next (after_effect snap first copies) is)) (changes_there snap first copies rest inner.0 outer.1)

-- what is there stays there behind a change
there_behind : (snap : ℕ) (change : Effect) (copies : ℕ → Option ObjCopy) (q : ℕ) (later : Effect) → IsThere (copies snap) change
    → IsThere (copies q) later → IsThere (after_effect snap change copies q) later
there_behind snap (SetAttr attr value) copies q (SetAttr name other) here there = kept_there snap (SetAttr attr value) copies q name refl refl there
there_behind snap (SetAttr attr value) copies q _ here there = absurd there
there_behind snap _ copies q later here there = absurd here

pub all_there_behind : (snap : ℕ) (change : Effect) (copies next : ℕ → Option ObjCopy) (rest : List (ℕ × Effect)) → IsThere (copies snap) change
    → AreThere rest copies → ((q : ℕ) → next q ≡ after_effect snap change copies q) → AreThere rest next
all_there_behind snap change copies next [] here there is = tt
all_there_behind snap change copies next (x ∷ xs) here there is =
    (subst (λ c. IsThere c x.1) (sym (is x.0)) (there_behind snap change copies x.0 x.1 here there.0), all_there_behind snap change copies next xs here there.1 is)

-- one more change, the first of those that are left
pub change_next : (items rest : List (ℕ × Effect)) (snap : ℕ) (change : Effect) (copies next whole : ℕ → Option ObjCopy) → items ≡ (snap, change) ∷ rest
    → AreThere items copies → ((q : ℕ) → next q ≡ after_effect snap change copies q) → after_effects items copies ≡ whole
    → AreThere rest next × (after_effects rest next ≡ whole)
change_next items rest snap change copies next whole steps there is holds =
    let h = subst (λ l. AreThere l copies) steps there in (
      all_there_behind snap change copies next rest h.0 h.1 is,
      ap (after_effects rest) (same_copies next (after_effect snap change copies) is) ∙ ap (λ l. after_effects l copies) (sym steps) ∙ holds,
    )
