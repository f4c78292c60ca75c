-- A script's steps, one after another.
use Rattle.std.proofs.Common.{◌≡◌, ℕ, zero, suc, ◌+◌, ◌<◌, ◌≤◌, List, [], ◌∷◌, length, get_or, drop, refl, sym, ap, ◌∙◌, subst, arith}
use Rattle.std.specs.List.{AllByRecursion}
use Rattle.std.proofs.lemmas.List.{drop_more, drop_all}
use Rattle.pgs_lines.specs.declared.step.Step.{Step}
use Rattle.pgs_history.specs.declared.made.Made.{Made}
use Rattle.pgs_placement.specs.Scrubbed.{AreScrubbed as IsScrubbed}
use Rattle.pgs_placement.specs.Sound.{IsSound as IsSoundGroup}
use Rattle.pgs_placement.proofs.Sound.{scrubbed_where as group_scrubbed}
use Rattle.pgs_world.specs.State.{GroupState, WorldState, lent, mades}
use Rattle.pgs_world.specs.Steps.{after_step, after_steps}
use Rattle.pgs_world.specs.Named.{IsNamedStep, AreNamed}
use Rattle.pgs_world.specs.Sound.{IsSound, AreScrubbed}
use Rattle.pgs_world.proofs.Sound.{onward_step}

-- on the way through a script, of which the steps from a place on are left
pub record IsRunning (start : WorldState) (script : List Step) (place : ℕ) (now : WorldState) : Type 0 where
  pub rest : after_steps now (drop place script) ≡ after_steps start script
  pub sound : IsSound now
  pub named : AreNamed now.bits (mades now.groups) script

pub run_begins : (start : WorldState) (script : List Step) → IsSound start → AreNamed start.bits (mades start.groups) script → IsRunning start script 0 start
run_begins start script sound named = record { rest = refl; sound = sound; named = named }

named_at : (bits : ℕ) (made : List Made) (script : List Step) (place : ℕ) (d : Step) → place < length script → AreNamed bits made script → IsNamedStep bits made (get_or script place d)
named_at bits made [] place d within all = absurd (omega (arith, within))
named_at bits made (step ∷ script) zero d within all = all.0
named_at bits made (step ∷ script) (suc place) d within all = named_at bits made script place d (let size : suc place < suc (length script) = within in omega (arith, size)) all.1

pub run_named : (start : WorldState) (script : List Step) (place : ℕ) (now : WorldState) (step : Step) → IsRunning start script place now → place < length script
    → step ≡ get_or script place step → IsNamedStep now.bits (mades now.groups) step
run_named start script place now step h within is = subst (IsNamedStep now.bits (mades now.groups)) (sym is) (named_at now.bits (mades now.groups) script place step within h.named)

named_on : (now next : WorldState) (script : List Step) → next.bits ≡ now.bits → mades next.groups ≡ mades now.groups → AreNamed now.bits (mades now.groups) script → AreNamed next.bits (mades next.groups) script
named_on now next script bits same named = subst (λ b. AreNamed b (mades next.groups) script) (sym bits) (subst (λ made. AreNamed now.bits made script) (sym same) named)

pub run_next : (start : WorldState) (script : List Step) (place : ℕ) (now next : WorldState) (step : Step) → IsRunning start script place now → place < length script
    → step ≡ get_or script place step → next ≡ after_step now step → IsSound next → IsRunning start script (place + 1) next
run_next start script place now next step h within is e sound =
    let left : drop place script ≡ step ∷ drop (place + 1) script = drop_more script place step within ∙ ap (λ x. x ∷ drop (place + 1) script) (sym is) in
    let on = onward_step now step h.sound (run_named start script place now step h within is) in
    record {
      rest = ap (λ w. after_steps w (drop (place + 1) script)) e ∙ sym (ap (after_steps now) left) ∙ h.rest;
      sound = sound;
      named = named_on now next script (ap (λ w. w.bits) e ∙ on.bits) (ap (λ w. mades w.groups) e ∙ on.same) h.named;
    }

pub run_ends : (start : WorldState) (script : List Step) (place : ℕ) (now : WorldState) → IsRunning start script place now → length script ≤ place → now ≡ after_steps start script
run_ends start script place now h done = sym (ap (after_steps now) (drop_all place script done)) ∙ h.rest

each_scrubbed : (w : WorldState) (groups : List GroupState) → AllByRecursion (λ group. IsSoundGroup (lent w group)) groups → AllByRecursion (λ group. IsScrubbed (lent w group)) groups
each_scrubbed w [] all = tt
each_scrubbed w (group ∷ groups) all = (group_scrubbed (lent w group) all.0, each_scrubbed w groups all.1)

pub run_scrubbed : (start : WorldState) (script : List Step) (place : ℕ) (now : WorldState) → IsRunning start script place now → AreScrubbed now
run_scrubbed start script place now h = each_scrubbed now now.groups h.sound.each

pub ruleset runs = (run_scrubbed, run_begins, run_named, run_next, run_ends)
