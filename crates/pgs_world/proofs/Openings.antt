-- A pool before the first step is sound.
use Rattle.std.proofs.Common.{◌≡◌, ℕ, ◌≤◌, List, [], ◌∷◌, map, refl, sym, ap, subst}
use Rattle.std.specs.Prelude.{IsTrue}
use Rattle.std.specs.List.{list_all, AllByRecursion}
use Rattle.pgs_slots.specs.Rows.{AreRowsSized, is_sized, free_rows}
use Rattle.pgs_slots.specs.declared.osd_slots.OsdSlots.{OsdSlots}
use Rattle.pgs_slots.specs.declared.row.Row.{Row}
use Rattle.pgs_placement.specs.State.{PlacementState}
use Rattle.pgs_placement.specs.Sound.{IsSound as IsSoundGroup}
use Rattle.pgs_placement.proofs.Slots.{free_sized}
use Rattle.pgs_placement.proofs.Sound.{opening_sound}
use Rattle.pgs_world.specs.State.{WorldState, lent, own, mades, opening}
use Rattle.pgs_world.specs.Opening.{IsOpening}
use Rattle.pgs_world.specs.Pool.{AreApart}
use Rattle.pgs_world.specs.Sound.{IsSound}

one_sound : (group : PlacementState) (slots : List Row) → IsOpening group → AreRowsSized slots → IsSoundGroup (record group { slots = slots; done = [] })
one_sound group slots h sized =
    opening_sound (record group { slots = slots; done = [] }) group.made h.devices group.stride slots (ap (λ (g : PlacementState). record g { slots = slots; done = [] }) h.is) h.named h.acting h.stride sized

each_sound : (w : WorldState) (groups : List PlacementState) → w.done ≡ [] → AllByRecursion (λ group. IsOpening group) groups → AreRowsSized w.slots
    → AllByRecursion (λ group. IsSoundGroup (lent w group)) (map own groups)
each_sound w [] first all sized = tt
each_sound w (group ∷ groups) first all sized =
    (subst (λ lines. IsSoundGroup (record group { slots = w.slots; done = lines })) (sym first) (one_sound group w.slots all.0 sized), each_sound w groups first all.1 sized)

pub opened_sound : (w : WorldState) (bits : ℕ) (groups : List PlacementState) (slots : List OsdSlots) → w ≡ opening bits (map own groups) (free_rows slots) → bits ≤ 3
    → AllByRecursion (λ group. IsOpening group) groups → AreApart (mades (map own groups)) → IsTrue (list_all is_sized slots) → IsSound w
opened_sound w bits groups slots is few all apart sized = subst IsSound (sym is) (record {
  each = each_sound (opening bits (map own groups) (free_rows slots)) groups refl all (free_sized slots sized);
  apart = apart;
  few = few;
  sized = free_sized slots sized;
})
