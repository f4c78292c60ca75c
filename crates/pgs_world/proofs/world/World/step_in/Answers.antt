use Rattle.std.proofs.Common.{sym, ap, ◌∙◌, subst}
use Rattle.std.specs.Prelude.{position}
use Rattle.pgs_placement.specs.Sound.{IsSound as IsSoundGroup}
use Rattle.pgs_world.specs.State.{WorldState}
use Rattle.pgs_world.proofs.Groups.{is_of}
use Rattle.pgs_world.proofs.Sound.{place_there, place_sound, place_named, place_done}
use Rattle.pgs_world.proofs.world.World.step_in.Goals as goal

pub unreachable-requires : goal.unreachable-requires
unreachable-requires c =
    place_there c.args.self.now c.args.number c.self.inside.groups.items c.args.step.now (sym (ap (λ (w : WorldState). w.groups) c.self.view_is))
    (sym (ap (position (is_of c.args.number)) c.as_slice.ensures.value) ∙ sym c.place.ensures ∙ c.in_default.is) c.requires.named

pub step_of-requires-clause-sound : goal.step_of-requires-clause-sound
step_of-requires-clause-sound c =
    subst (λ (w : WorldState). IsSoundGroup (record c.index_mut-group.result.now { slots = w.slots; done = w.done })) (sym c.self.view_is)
    (place_sound c.args.self.now c.args.number c.self.inside.groups.items c.in-Some.at c.index_mut-group.result.now c.requires.sound (sym (ap (λ (w : WorldState). w.groups) c.self.view_is))
    (sym (ap (position (is_of c.args.number)) c.as_slice.ensures.value) ∙ sym c.place.ensures ∙ c.in-Some.is) c.index_mut-group.ensures.value)

pub step_of-requires-clause-named : goal.step_of-requires-clause-named
step_of-requires-clause-named c =
    place_named c.args.self.now c.args.number c.self.inside.groups.items c.in-Some.at c.index_mut-group.result.now c.args.step.now (sym (ap (λ (w : WorldState). w.groups) c.self.view_is))
    (sym (ap (position (is_of c.args.number)) c.as_slice.ensures.value) ∙ sym c.place.ensures ∙ c.in-Some.is) c.index_mut-group.ensures.value c.requires.named

pub returns : goal.returns
returns c =
    place_done _ _ _ _ c.args.self.now c.args.number c.self.inside.groups.items c.in-Some.at c.index_mut-group.result.now c.step_of.new.group c.args.step.now _ _ c.self.view_is
    (sym (ap (position (is_of c.args.number)) c.as_slice.ensures.value) ∙ sym c.place.ensures ∙ c.in-Some.is) c.index_mut-group.ensures.value
    c.in_ok-step_of.ensures.group c.in_ok-step_of.ensures.slots c.in_ok-step_of.ensures.done
