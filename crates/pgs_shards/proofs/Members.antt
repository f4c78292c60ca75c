-- A change of one OSD's member changes what is told of it, and leaves the others.
use Rattle.std.proofs.Common.{◌≡◌, ℕ, ◌==◌, ◌||◌, Bool, true, false, cond, List, [], ◌∷◌, Some, None, refl, sym, ap, ◌∙◌, inl, inr, map}
use Rattle.std.specs.List.{list_any}
use Rattle.std.proofs.lemmas.Bool.Decides.{eqb_tells}
use Rattle.pgs_bytes.proofs.Facts.{true_false}
use Rattle.pgs_name.specs.Families.{Family}
use Rattle.pgs_range.specs.declared.bound.Bound.{Bound}
use Rattle.pgs_copy.specs.declared.damage.Damage.{Damage}
use Rattle.pgs_shard_history.specs.Held.{damage_answer}
use Rattle.pgs_shard_history.specs.declared.event.Event.{Event}
use Rattle.pgs_shards.specs.Applies.{apply_answer, applied_by, after_apply}
use Rattle.pgs_shards.specs.Damages.{damage_in}
use Rattle.pgs_shards.specs.Listings.{failing_of, listed_by, after_list}
use Rattle.pgs_shards.specs.Members.{Member, beginning, of_member, with_member, past_in, after_event, with_event, with_past}
use Rattle.pgs_shards.specs.declared.apply_answer.ApplyAnswer.{ApplyAnswer}
use Rattle.pgs_shards.specs.declared.apply_answer.ApplyAnswer.TheVariants as applies
use Rattle.pgs_shards.specs.declared.osd_device.OsdDevice.{OsdDevice}

-- an OSD is a member
abbrev pub has : List Member → ℕ → Bool
has members osd = list_any (λ other. other == osd) (map (λ member. member.osd) members)

-- a change keeps the OSD of each member
abbrev pub KeepsOsd : (Member → Member) → Type 0
KeepsOsd change = (member : Member) → (change member).osd ≡ member.osd

applied_osd : (answer : ApplyAnswer) (member : Member) → (applied_by answer member).osd ≡ member.osd
applied_osd (applies.NotYet count) member = refl
applied_osd (applies.Applied number drops) member = refl
applied_osd (applies.DeviceFault count) member = refl

pub apply_osd : KeepsOsd after_apply
apply_osd member = applied_osd (apply_answer member) member

pub list_osd : (limit : ℕ) (start : Bound) → KeepsOsd (after_list limit start)
list_osd limit start member =
    (elim (failing_of limit start member) as (λ failing. (listed_by failing limit start member).osd ≡ member.osd) [
      | None ↦ refl
      | Some calls ↦ refl
    ])

-- ---- of the OSD

pub told_here : {A : Type 0} (tell : Member → A) (none : A) (osd : ℕ) (change : Member → Member) (members : List Member) → KeepsOsd change
    → of_member tell none (with_member osd change members) osd ≡ of_member (λ member. tell (change member)) none members osd
told_here tell none osd change [] keeps = refl
told_here tell none osd change (member ∷ members) keeps =
    let P : Bool → Type 0 = λ v. (member.osd == osd) ≡ v → of_member tell none (cond v (change member ∷ members) (member ∷ with_member osd change members)) osd
    ≡ cond v (tell (change member)) (of_member (λ m. tell (change m)) none members osd) in
    (elim (member.osd == osd) as P [
      | true ↦ λ same. ap (λ v. cond v (tell (change member)) (of_member tell none members osd)) (ap (λ n. n == osd) (keeps member) ∙ same)
      | false ↦ λ other. ap (λ v. cond v (tell member) (of_member tell none (with_member osd change members) osd)) other ∙ told_here tell none osd change members keeps
    ]) refl

-- what is told of a member, where the OSD is one
pub told_of_past : {A : Type 0} (tell : List Event → A) (none : A) (members : List Member) (osd : ℕ) → has members osd ≡ true
    → of_member (λ member. tell member.past) none members osd ≡ tell (past_in members osd)
told_of_past tell none [] osd there = absurd (true_false (sym there))
told_of_past tell none (member ∷ members) osd there =
    let P : Bool → Type 0 = λ v. (v || has members osd) ≡ true
    → cond v (tell member.past) (of_member (λ m. tell m.past) none members osd) ≡ tell (cond v member.past (past_in members osd)) in
    (elim (member.osd == osd) as P [
      | true ↦ λ among. refl
      | false ↦ λ among. told_of_past tell none members osd among
    ]) there

pub past_in_here : (members : List Member) (osd : ℕ) (event : Event) → has members osd ≡ true → past_in (with_event osd event members) osd ≡ event ∷ past_in members osd
past_in_here members osd event there =
    told_here (λ m. m.past) [] osd (after_event event) members (λ member. refl) ∙ told_of_past (λ past. event ∷ past) [] members osd there

-- damage to a copy of an OSD is answered by its history
pub damage_here : (members : List Member) (osd : ℕ) (family : Family) (snap : ℕ) (damage : Damage) → has members osd ≡ true
    → damage_in members osd family snap damage ≡ damage_answer (past_in members osd) family snap damage
damage_here members osd family snap damage there = told_of_past (λ past. damage_answer past family snap damage) _ members osd there

pub past_with_past_here : (members : List Member) (osd : ℕ) (past : List Event) → has members osd ≡ true → past_in (with_past osd past members) osd ≡ past
past_with_past_here members osd past there =
    told_here (λ m. m.past) [] osd (λ member. record member { past = past }) members (λ member. refl) ∙ told_of_past (λ other. past) [] members osd there

-- ---- of the others

pub told_other : {A : Type 0} (tell : Member → A) (none : A) (osd q : ℕ) (change : Member → Member) (members : List Member) → KeepsOsd change → (osd == q) ≡ false
    → of_member tell none (with_member osd change members) q ≡ of_member tell none members q
told_other tell none osd q change [] keeps apart = refl
told_other tell none osd q change (member ∷ members) keeps apart =
    let P : Bool → Type 0 = λ v. (member.osd == osd) ≡ v
    → of_member tell none (cond v (change member ∷ members) (member ∷ with_member osd change members)) q ≡ cond (member.osd == q) (tell member) (of_member tell none members q) in
    (elim (member.osd == osd) as P [
      | true ↦ λ same.
          let differs : (member.osd == q) ≡ false = elim (eqb_tells member.osd osd) [
            | inl is ↦ ap (λ n. n == q) is.1 ∙ apart
            | inr not ↦ absurd (true_false (sym same ∙ not.0))
          ] in
          ap (λ v. cond v (tell (change member)) (of_member tell none members q)) (ap (λ n. n == q) (keeps member) ∙ differs)
          ∙ sym (ap (λ v. cond v (tell member) (of_member tell none members q)) differs)
      | false ↦ λ other. ap (λ rest. cond (member.osd == q) (tell member) rest) (told_other tell none osd q change members keeps apart)
    ]) refl

pub past_in_other : (members : List Member) (osd q : ℕ) (event : Event) → (osd == q) ≡ false → past_in (with_event osd event members) q ≡ past_in members q
past_in_other members osd q event apart = told_other (λ m. m.past) [] osd q (after_event event) members (λ member. refl) apart

pub past_with_past_other : (members : List Member) (osd q : ℕ) (past : List Event) → (osd == q) ≡ false → past_in (with_past osd past members) q ≡ past_in members q
past_with_past_other members osd q past apart = told_other (λ m. m.past) [] osd q (λ member. record member { past = past }) members (λ member. refl) apart

-- ---- the OSDs themselves

pub osds_changed : (osd : ℕ) (change : Member → Member) (members : List Member) → KeepsOsd change
    → map (λ member. member.osd) (with_member osd change members) ≡ map (λ member. member.osd) members
osds_changed osd change [] keeps = refl
osds_changed osd change (member ∷ members) keeps =
    (elim (member.osd == osd) as (λ v. map (λ m. m.osd) (cond v (change member ∷ members) (member ∷ with_member osd change members)) ≡ member.osd ∷ map (λ m. m.osd) members) [
      | true ↦ ap (λ o. o ∷ map (λ (m : Member). m.osd) members) (keeps member)
      | false ↦ ap (λ osds. member.osd ∷ osds) (osds_changed osd change members keeps)
    ])

pub osds_kept : (members : List Member) (osd : ℕ) (event : Event) → map (λ member. member.osd) (with_event osd event members) ≡ map (λ member. member.osd) members
osds_kept members osd event = osds_changed osd (after_event event) members (λ member. refl)

pub osds_with_past : (members : List Member) (osd : ℕ) (past : List Event) → map (λ member. member.osd) (with_past osd past members) ≡ map (λ member. member.osd) members
osds_with_past members osd past = osds_changed osd (λ member. record member { past = past }) members (λ member. refl)

-- ---- at the beginning

pub osds_beginning : (devices : List OsdDevice) → map (λ member. member.osd) (beginning devices) ≡ map (λ device. device.osd) devices
osds_beginning [] = refl
osds_beginning (device ∷ devices) = ap (λ osds. device.osd ∷ osds) (osds_beginning devices)

pub past_beginning : (devices : List OsdDevice) (osd : ℕ) → past_in (beginning devices) osd ≡ []
past_beginning [] osd = refl
past_beginning (device ∷ devices) osd =
    (elim (device.osd == osd) as (λ v. cond v [] (past_in (beginning devices) osd) ≡ []) [
      | true ↦ refl
      | false ↦ past_beginning devices osd
    ])

-- ---- the same history in its place

pub same_past : (osd : ℕ) (members : List Member) → with_past osd (past_in members osd) members ≡ members
same_past osd [] = refl
same_past osd (member ∷ members) =
    (elim (member.osd == osd) as (λ v. cond v (record member { past = cond v member.past (past_in members osd) } ∷ members)
    (member ∷ with_past osd (cond v member.past (past_in members osd)) members) ≡ member ∷ members) [
      | true ↦ refl
      | false ↦ ap (λ rest. member ∷ rest) (same_past osd members)
    ])
