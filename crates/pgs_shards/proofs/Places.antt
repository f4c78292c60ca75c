-- The shard of an OSD in a list of shards.
use Rattle.std.proofs.Common.{◌≡◌, ℕ, zero, suc, ◌+◌, ◌<◌, ◌≤◌, ◌==◌, nat_lt, Bool, true, false, cond, not, List, [], ◌∷◌, ◌++◌, length, drop, map, Option, Some, None, get_or, set, refl, sym, ap, ◌∙◌, subst, arith}
use Rattle.std.specs.Prelude.{position, option_map, IfSome}
use Rattle.std.specs.List.{position_or_len}
use Rattle.std.proofs.lemmas.Bool.Decides.{nat_tests}
use Rattle.std.proofs.lemmas.List.{drop_more}
use Rattle.pgs_bytes.proofs.Facts.{none_some, some_none, some_same}
use Rattle.pgs_name.specs.Families.{Family}
use Rattle.pgs_range.specs.declared.bound.Bound.{Bound}
use Rattle.pgs_copy.specs.declared.damage.Damage.{Damage}
use Rattle.pgs_medium.specs.declared.ram_medium.RamMedium.{RamMedium}
use Rattle.pgs_shards.specs.Devices.{uncalled}
use Rattle.pgs_shard.specs.State.{ShardState}
use Rattle.pgs_exchange.specs.Deposits.{deposit_of, read_deposit, as_read}
use Rattle.pgs_exchange.specs.declared.deposit.Deposit.{Deposit}
use Rattle.pgs_shard.specs.Scans.{IsHandedInRange}
use Rattle.pgs_shard.specs.declared.scan_answer.ScanAnswer.{ScanAnswer}
use Rattle.pgs_shard.specs.declared.scan_answer.ScanAnswer.TheVariants.{Idle}
use Rattle.pgs_shard_history.specs.Feeds.{fed}
use Rattle.pgs_shard_history.specs.Held.{damage_answer}
use Rattle.pgs_shard_history.specs.declared.damage_answer.DamageAnswer.{DamageAnswer}
use Rattle.pgs_shard_history.specs.declared.damage_answer.DamageAnswer.TheVariants.{Damaged}
use Rattle.pgs_shard_history.specs.declared.event.Event.{Event}
use Rattle.pgs_shards.specs.Applies.{apply_answer, after_apply, apply_in, with_applied}
use Rattle.pgs_shards.specs.Damages.{after_damage, damage_in, with_damage}
use Rattle.pgs_shards.specs.Kept.{seen, shards_seen, AreOfStride, is_of, IsCalledOn, IsMemberCalledOn, AreCalledOn}
use Rattle.pgs_shards.specs.Listings.{list_answer, after_list, list_in, with_listed}
use Rattle.pgs_shards.specs.Members.{Member, ShardsState, begun, beginning, of_member, with_member, past_in, after_event, with_event}
use Rattle.pgs_shards.specs.Scans.{scan_answer, after_scan, scan_in, with_scanned, hand_answer, after_hand, hand_in, with_handed}
use Rattle.pgs_shards.specs.declared.apply_answer.ApplyAnswer.{ApplyAnswer}
use Rattle.pgs_shards.specs.declared.apply_answer.ApplyAnswer.TheVariants.{NotYet}
use Rattle.pgs_shards.specs.declared.list_answer.ListAnswer.{ListAnswer}
use Rattle.pgs_shards.specs.declared.list_answer.ListAnswer.TheVariants.{Listed}
use Rattle.pgs_shards.specs.declared.osd_device.OsdDevice.{OsdDevice}

abbrev Shard : Type 0
Shard = ShardState RamMedium

-- ---- where it is

abbrev IsAt : ℕ → List Shard → ℕ → Type 0
IsAt osd shards at = (position_or_len (is_of osd) shards ≡ at) × (at < length shards)

found : (n size at : ℕ) → cond (nat_lt n size) (Some n) None ≡ Some at → (n ≡ at) × (at < size)
found n size at e =
    let P : Bool → Type 0 = λ v. nat_lt n size ≡ v → cond v (Some n) None ≡ Some at → (n ≡ at) × (at < size) in
    (elim (nat_lt n size) as P [
      | true ↦ λ less some. let same : n ≡ at = some_same n at some in (same, subst (λ m. m < size) same (grind (arith, nat_tests, less)))
      | false ↦ λ over none. absurd (none_some at none)
    ]) refl e

is_at : (osd : ℕ) (shards : List Shard) (at : ℕ) → position (is_of osd) shards ≡ Some at → IsAt osd shards at
is_at osd shards at e = found (position_or_len (is_of osd) shards) (length shards) at e

not_found : (n size : ℕ) → cond (nat_lt n size) (Some n) None ≡ None → nat_lt n size ≡ false
not_found n size e =
    let P : Bool → Type 0 = λ v. cond v (Some n) None ≡ None → v ≡ false in
    (elim (nat_lt n size) as P [
      | true ↦ λ some. absurd (some_none n some)
      | false ↦ λ none. refl
    ]) e

one_on : (v : Bool) (n at : ℕ) → cond v (1 + n) 0 ≡ suc at → (v ≡ true) × (n ≡ at)
one_on true n at e = (refl, omega (arith, e))
one_on false n at e = absurd (omega (arith, e))

not_true : (v : Bool) → not v ≡ true → v ≡ false
not_true true e = cc
not_true false e = refl

none_on : (v : Bool) (n : ℕ) → cond v (1 + n) 0 ≡ 0 → v ≡ false
none_on true n e = absurd (omega (arith, e))
none_on false n e = refl

not_false : (v : Bool) → not v ≡ false → v ≡ true
not_false true e = refl
not_false false e = cc

-- the first shard is of the OSD, or it isn't and the place is among the others
here_so : (osd : ℕ) (shard : Shard) (shards : List Shard) → position_or_len (is_of osd) (shard ∷ shards) ≡ 0 → (shard.osd == osd) ≡ true
here_so osd shard shards p = not_false (shard.osd == osd) (none_on (not (shard.osd == osd)) (position_or_len (is_of osd) shards) p)

later_so : (osd : ℕ) (shard : Shard) (shards : List Shard) (at : ℕ) → position_or_len (is_of osd) (shard ∷ shards) ≡ suc at
    → ((shard.osd == osd) ≡ false) × (position_or_len (is_of osd) shards ≡ at)
later_so osd shard shards at p =
    let more = one_on (not (shard.osd == osd)) (position_or_len (is_of osd) shards) at p in
    (not_true (shard.osd == osd) more.0, more.1)

-- ---- what is told of it

told_at : {A : Type 0} (tell : Member → A) (none : A) (osd : ℕ) (shards : List Shard) (at : ℕ) (d : Shard) → position_or_len (is_of osd) shards ≡ at → at < length shards
    → of_member tell none (map seen shards) osd ≡ tell (seen (get_or shards at d))
told_at tell none osd [] at d p h = absurd (omega (arith, h))
told_at tell none osd (shard ∷ shards) zero d p h = ap (λ v. cond v (tell (seen shard)) (of_member tell none (map seen shards) osd)) (here_so osd shard shards p)
told_at tell none osd (shard ∷ shards) (suc at) d p h =
    let more = later_so osd shard shards at p in
    ap (λ v. cond v (tell (seen shard)) (of_member tell none (map seen shards) osd)) more.0
    ∙ told_at tell none osd shards at d more.1 (let size : suc at < suc (length shards) = h in omega (arith, size))

-- a shard changed
changed_at : (osd : ℕ) (change : Member → Member) (shards : List Shard) (at : ℕ) (new d : Shard) → position_or_len (is_of osd) shards ≡ at → at < length shards
    → seen new ≡ change (seen (get_or shards at d)) → map seen (set shards at new) ≡ with_member osd change (map seen shards)
changed_at osd change [] at new d p h e = absurd (omega (arith, h))
changed_at osd change (shard ∷ shards) zero new d p h e =
    ap (λ m. m ∷ map seen shards) e
    ∙ sym (ap (λ v. cond v (change (seen shard) ∷ map seen shards) (seen shard ∷ with_member osd change (map seen shards))) (here_so osd shard shards p))
changed_at osd change (shard ∷ shards) (suc at) new d p h e =
    let more = later_so osd shard shards at p in
    ap (λ rest. seen shard ∷ rest) (changed_at osd change shards at new d more.1 (let size : suc at < suc (length shards) = h in omega (arith, size)) e)
    ∙ sym (ap (λ v. cond v (change (seen shard) ∷ map seen shards) (seen shard ∷ with_member osd change (map seen shards))) more.0)

same_at : (shards : List Shard) (at : ℕ) (new d : Shard) → at < length shards → seen new ≡ seen (get_or shards at d) → map seen (set shards at new) ≡ map seen shards
same_at [] at new d h e = absurd (omega (arith, h))
same_at (shard ∷ shards) zero new d h e = ap (λ m. m ∷ map seen shards) e
same_at (shard ∷ shards) (suc at) new d h e =
    ap (λ rest. seen shard ∷ rest) (same_at shards at new d (let size : suc at < suc (length shards) = h in omega (arith, size)) e)

-- ---- where none is

impossible : (n : ℕ) → nat_lt 0 (suc n) ≡ false → ⊥
impossible n h = grind (arith, nat_tests, h)

fewer : (a b : ℕ) → nat_lt (1 + a) (suc b) ≡ false → nat_lt a b ≡ false
fewer a b h = grind (arith, nat_tests, h)

told_nowhere : {A : Type 0} (tell : Member → A) (none : A) (osd : ℕ) (shards : List Shard) → nat_lt (position_or_len (is_of osd) shards) (length shards) ≡ false
    → of_member tell none (map seen shards) osd ≡ none
told_nowhere tell none osd [] e = refl
told_nowhere tell none osd (shard ∷ shards) e =
    let P : Bool → Type 0 = λ v. nat_lt (cond (not v) (1 + position_or_len (is_of osd) shards) 0) (suc (length shards)) ≡ false
    → cond v (tell (seen shard)) (of_member tell none (map seen shards) osd) ≡ none in
    (elim (shard.osd == osd) as P [
      | true ↦ λ here. absurd (impossible (length shards) here)
      | false ↦ λ rest. told_nowhere tell none osd shards (fewer (position_or_len (is_of osd) shards) (length shards) rest)
    ]) e

left_nowhere : (osd : ℕ) (change : Member → Member) (shards : List Shard) → nat_lt (position_or_len (is_of osd) shards) (length shards) ≡ false
    → with_member osd change (map seen shards) ≡ map seen shards
left_nowhere osd change [] e = refl
left_nowhere osd change (shard ∷ shards) e =
    let P : Bool → Type 0 = λ v. nat_lt (cond (not v) (1 + position_or_len (is_of osd) shards) 0) (suc (length shards)) ≡ false
    → cond v (change (seen shard) ∷ map seen shards) (seen shard ∷ with_member osd change (map seen shards)) ≡ seen shard ∷ map seen shards in
    (elim (shard.osd == osd) as P [
      | true ↦ λ here. absurd (impossible (length shards) here)
      | false ↦ λ rest. ap (λ xs. seen shard ∷ xs) (left_nowhere osd change shards (fewer (position_or_len (is_of osd) shards) (length shards) rest))
    ]) e

-- ---- histories, for the calls that change nothing

pub past_nowhere : (osd : ℕ) (shards : List Shard) → position (is_of osd) shards ≡ None → past_in (map seen shards) osd ≡ []
past_nowhere osd shards e = told_nowhere (λ m. m.past) [] osd shards (not_found (position_or_len (is_of osd) shards) (length shards) e)

pub past_at : (osd : ℕ) (shards : List Shard) (at : ℕ) (d : Shard) → position (is_of osd) shards ≡ Some at → past_in (map seen shards) osd ≡ (get_or shards at d).past
past_at osd shards at d e = let is = is_at osd shards at e in told_at (λ m. m.past) [] osd shards at d is.0 is.1

-- ---- how many bytes each reads at a step

stride_with : (stride : ℕ) (shards : List Shard) (at : ℕ) (new d : Shard) → AreOfStride stride shards → new.stride ≡ (get_or shards at d).stride → AreOfStride stride (set shards at new)
stride_with stride [] at new d all same = tt
stride_with stride (shard ∷ shards) zero new d all same = (same ∙ all.0, all.1)
stride_with stride (shard ∷ shards) (suc at) new d all same = (all.0, stride_with stride shards at new d all.1 same)

pub stride_set : (stride : ℕ) (shards : List Shard) (at : ℕ) (shard new : Shard) → AreOfStride stride shards → shard ≡ get_or shards at shard → new.stride ≡ shard.stride
    → AreOfStride stride (set shards at new)
stride_set stride shards at shard new all is same = stride_with stride shards at new shard all (same ∙ ap (λ s. s.stride) is)

stride_at : (stride : ℕ) (shards : List Shard) (at : ℕ) (d : Shard) → at < length shards → AreOfStride stride shards → (get_or shards at d).stride ≡ stride
stride_at stride [] at d h all = absurd (omega (arith, h))
stride_at stride (shard ∷ shards) zero d h all = all.0
stride_at stride (shard ∷ shards) (suc at) d h all = stride_at stride shards at d (let size : suc at < suc (length shards) = h in omega (arith, size)) all.1

-- ---- a shard more

pub stride_more : (stride : ℕ) (shards : List Shard) (new : Shard) → AreOfStride stride shards → new.stride ≡ stride → AreOfStride stride (shards ++ new ∷ [])
stride_more stride [] new all same = (same, tt)
stride_more stride (shard ∷ shards) new all same = (all.0, stride_more stride shards new all.1 same)

pub begun_more : (shards : List Shard) (new : Shard) (devices : List OsdDevice) (i : ℕ) (device : OsdDevice) → i < length devices → device ≡ get_or devices i device → seen new ≡ begun device
    → map seen (shards ++ new ∷ []) ++ beginning (drop (i + 1) devices) ≡ map seen shards ++ beginning (drop i devices)
begun_more [] new devices i device within is e =
    ap (λ m. m ∷ beginning (drop (i + 1) devices)) e
    ∙ sym (ap beginning (drop_more devices i device within ∙ ap (λ x. x ∷ drop (i + 1) devices) (sym is)))
begun_more (shard ∷ shards) new devices i device within is e = ap (λ rest. seen shard ∷ rest) (begun_more shards new devices i device within is e)

-- ---- the same of what is seen

module _ (osd stride : ℕ) (shards : List Shard) (now : ShardsState) (view : shards_seen stride shards ≡ now) where
  members_now : map seen shards ≡ now.all
  unfolding shards_seen
  members_now = ap (λ (s : ShardsState). s.all) view

  module _ (none : position (is_of osd) shards ≡ None) where
    told_none : {A : Type 0} (tell : Member → A) (other : A) → other ≡ of_member tell other now.all osd
    told_none tell other =
        sym (ap (λ members. of_member tell other members osd) (sym members_now)
        ∙ told_nowhere tell other osd shards (not_found (position_or_len (is_of osd) shards) (length shards) none))

    left_none : (change : Member → Member) → now ≡ record now { all = with_member osd change now.all }
    left_none change =
        ap (λ all. record now { all = all })
        (sym members_now ∙ sym (left_nowhere osd change shards (not_found (position_or_len (is_of osd) shards) (length shards) none))
        ∙ ap (λ members. with_member osd change members) members_now)

    pub event_none : (event : Event) → now ≡ record now { all = with_event osd event now.all }
    event_none event = left_none (after_event event)

    pub answer_none : NotYet 0 ≡ apply_in now.all osd
    answer_none = told_none apply_answer (NotYet 0)

    pub applied_none : now ≡ record now { all = with_applied osd now.all }
    applied_none = left_none after_apply

    pub damage_none : (family : Family) (snap : ℕ) (damage : Damage) → Damaged ≡ damage_in now.all osd family snap damage
    damage_none family snap damage = told_none (λ member. damage_answer member.past family snap damage) Damaged

    pub harmed_none : (family : Family) (snap : ℕ) (damage : Damage) → now ≡ record now { all = with_damage osd family snap damage now.all }
    harmed_none family snap damage = left_none (after_damage family snap damage)

    pub list_none : (limit : ℕ) (start : Bound) → Listed [] ≡ list_in limit start now.all osd
    list_none limit start = told_none (list_answer limit start) (Listed [])

    pub listed_none : (limit : ℕ) (start : Bound) → now ≡ record now { all = with_listed limit start osd now.all }
    listed_none limit start = left_none (after_list limit start)

    pub idle_none : Idle ≡ scan_in now.stride now.all osd
    idle_none = told_none (scan_answer now.stride) Idle

    pub scanned_none : now ≡ record now { all = with_scanned now.stride osd now.all }
    scanned_none = left_none (after_scan now.stride)

    pub hand_none : None ≡ option_map deposit_of (hand_in now.all osd)
    hand_none = ap (option_map deposit_of) (told_none hand_answer None)

    pub again_none : None ≡ option_map as_read (hand_in now.all osd)
    again_none = ap (option_map as_read) (told_none hand_answer None)

    pub range_none : IfSome (hand_in now.all osd) IsHandedInRange
    range_none = subst (λ told. IfSome told IsHandedInRange) (told_none hand_answer None) tt

    pub handed_none : now ≡ record now { all = with_handed osd now.all }
    handed_none = left_none after_hand

  module _ (at : ℕ) (there : position (is_of osd) shards ≡ Some at) (shard : Shard) (is : shard ≡ get_or shards at shard) where
    told_some : {A : Type 0} (tell : Member → A) (none : A) → tell (seen shard) ≡ of_member tell none now.all osd
    told_some tell none =
        let at_is = is_at osd shards at there in
        ap (λ s. tell (seen s)) is ∙ sym (told_at tell none osd shards at shard at_is.0 at_is.1) ∙ ap (λ members. of_member tell none members osd) members_now

    pub from_some : (from : ℕ) → from ≤ length (fed (past_in now.all osd)) → from ≤ length (fed shard.past)
    from_some from within = subst (λ past. from ≤ length (fed past)) (sym (told_some (λ member. member.past) [])) within

    pub answer_some : (answer : ApplyAnswer) → answer ≡ apply_answer (seen shard) → answer ≡ apply_in now.all osd
    answer_some answer e = e ∙ told_some apply_answer (NotYet 0)

    pub damage_some : (family : Family) (snap : ℕ) (damage : Damage) (answer : DamageAnswer) → answer ≡ damage_answer shard.past family snap damage
        → answer ≡ damage_in now.all osd family snap damage
    damage_some family snap damage answer e = e ∙ told_some (λ member. damage_answer member.past family snap damage) Damaged

    pub list_some : (limit : ℕ) (start : Bound) (answer : ListAnswer) → answer ≡ list_answer limit start (seen shard) → answer ≡ list_in limit start now.all osd
    list_some limit start answer e = e ∙ told_some (list_answer limit start) (Listed [])

    stride_now : AreOfStride stride shards → shard.stride ≡ now.stride
    unfolding shards_seen
    stride_now all =
        ap (λ (s : Shard). s.stride) is ∙ stride_at stride shards at shard (is_at osd shards at there).1 all ∙ ap (λ (s : ShardsState). s.stride) view

    pub scan_some : AreOfStride stride shards → (answer : ScanAnswer) → answer ≡ scan_answer shard.stride (seen shard) → answer ≡ scan_in now.stride now.all osd
    scan_some all answer e = e ∙ ap (λ n. scan_answer n (seen shard)) (stride_now all) ∙ told_some (scan_answer now.stride) Idle

    pub hand_some : (deposit : Option Deposit) → deposit ≡ option_map deposit_of (hand_answer (seen shard)) → deposit ≡ option_map deposit_of (hand_in now.all osd)
    hand_some deposit e = e ∙ ap (option_map deposit_of) (told_some hand_answer None)

    pub again_some : (deposit : Option Deposit) → option_map read_deposit deposit ≡ option_map as_read (hand_answer (seen shard))
        → option_map read_deposit deposit ≡ option_map as_read (hand_in now.all osd)
    again_some deposit e = e ∙ ap (option_map as_read) (told_some hand_answer None)

    pub range_some : IfSome (hand_answer (seen shard)) IsHandedInRange → IfSome (hand_in now.all osd) IsHandedInRange
    range_some h = subst (λ told. IfSome told IsHandedInRange) (told_some hand_answer None) h

    module _ (new : Shard) where
      -- what is seen with other members
      with_members : (all : List Member) → map seen (set shards at new) ≡ all → shards_seen stride (set shards at new) ≡ record now { all = all }
      unfolding shards_seen
      with_members all e = λ i. record { stride = (view i).stride; all = e i }

      changed : (change : Member → Member) → seen new ≡ change (seen shard) → shards_seen stride (set shards at new) ≡ record now { all = with_member osd change now.all }
      changed change e =
          let at_is = is_at osd shards at there in
          with_members (with_member osd change now.all)
          (changed_at osd change shards at new shard at_is.0 at_is.1 (e ∙ ap (λ s. change (seen s)) is) ∙ ap (λ members. with_member osd change members) members_now)

      pub same_some : seen new ≡ seen shard → shards_seen stride (set shards at new) ≡ now
      same_some e = with_members now.all (same_at shards at new shard (is_at osd shards at there).1 (e ∙ ap seen is) ∙ members_now)

      pub event_some : (event : Event) → seen new ≡ after_event event (seen shard) → shards_seen stride (set shards at new) ≡ record now { all = with_event osd event now.all }
      event_some event e = changed (after_event event) e

      pub applied_some : seen new ≡ after_apply (seen shard) → shards_seen stride (set shards at new) ≡ record now { all = with_applied osd now.all }
      applied_some e = changed after_apply e

      pub harmed_some : (family : Family) (snap : ℕ) (damage : Damage) → seen new ≡ after_damage family snap damage (seen shard)
          → shards_seen stride (set shards at new) ≡ record now { all = with_damage osd family snap damage now.all }
      harmed_some family snap damage e = changed (after_damage family snap damage) e

      pub listed_some : (limit : ℕ) (start : Bound) → seen new ≡ after_list limit start (seen shard)
          → shards_seen stride (set shards at new) ≡ record now { all = with_listed limit start osd now.all }
      listed_some limit start e = changed (after_list limit start) e

      pub scanned_some : AreOfStride stride shards → seen new ≡ after_scan shard.stride (seen shard)
          → shards_seen stride (set shards at new) ≡ record now { all = with_scanned now.stride osd now.all }
      scanned_some all e = changed (after_scan now.stride) (e ∙ ap (λ n. after_scan n (seen shard)) (stride_now all))

      pub handed_some : seen new ≡ after_hand (seen shard) → shards_seen stride (set shards at new) ≡ record now { all = with_handed osd now.all }
      handed_some e = changed after_hand e

      -- where memory ran out
      pub called_some : IsMemberCalledOn (seen shard) (seen new) → AreCalledOn osd now (shards_seen stride (set shards at new))
      called_some on = record {
        device = (seen new).device;
        calls = subst (λ d. IsCalledOn d (seen new).device) (told_some (λ member. member.device) (uncalled (Some []))) on.device;
        left = changed (λ member. record member { device = (seen new).device }) (λ i. record { osd = on.osd i; past = on.past i; device = (seen new).device });
      }

pub ruleset feeds = (event_none, from_some, same_some, event_some)

pub ruleset applies = (answer_none, applied_none, answer_some, same_some, applied_some)

pub ruleset damages = (damage_none, harmed_none, damage_some, same_some, harmed_some)

pub ruleset lists = (list_none, listed_none, list_some, listed_some, called_some)

pub ruleset scans = (idle_none, scanned_none, scan_some, scanned_some, called_some)

pub ruleset hands = (hand_none, again_none, range_none, handed_none, hand_some, again_some, range_some, handed_some)
