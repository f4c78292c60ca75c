-- Every step keeps what is sound.
use Rattle.std.proofs.Common.{◌≡◌, ℕ, ◌==◌, List, [], ◌∷◌, ◌++◌, map, get_or, set, cond, Bool, true, false, Option, Some, None, refl, sym, ap, ◌∙◌, subst}
use Rattle.std.specs.Prelude.{position}
use Rattle.std.specs.List.{AllByRecursion}
use Rattle.pgs_bytes.proofs.Facts.{some_none}
use Rattle.pgs_done.specs.declared.collect_answer.CollectAnswer.TheVariants as collects
use Rattle.pgs_done.specs.declared.done.Done.{Done}
use Rattle.pgs_done.specs.declared.done.Done.TheVariants as dones
use Rattle.pgs_lines.specs.declared.basic.Basic.TheVariants as basics
use Rattle.pgs_lines.specs.declared.step.Step.{Step}
use Rattle.pgs_lines.specs.declared.step.Step.TheVariants as steps
use Rattle.pgs_history.specs.declared.event.Event.{Event}
use Rattle.pgs_history.specs.declared.made.Made.{Made}
use Rattle.pgs_queue.specs.declared.job.Job.{Job}
use Rattle.pgs_shards.specs.Members.{Member}
use Rattle.pgs_slots.specs.Rows.{AreRowsSized}
use Rattle.pgs_slots.specs.declared.row.Row.{Row}
use Rattle.pgs_placement.specs.State.{PlacementState}
use Rattle.pgs_placement.specs.Acknowledged.{StillHolds, AreAcknowledged}
use Rattle.pgs_placement.specs.Counts.{IsNamedStep as IsNamedIn}
use Rattle.pgs_placement.specs.Sound.{IsSound as IsSoundGroup}
use Rattle.pgs_placement.specs.Steps.{after_step as placement_after}
use Rattle.pgs_placement.proofs.Added.{IsOf, Adds}
use Rattle.pgs_placement.proofs.Runs.{on_step}
use Rattle.pgs_placement.proofs.Steady.{steady_lent}
use Rattle.pgs_world.specs.State.{GroupState, WorldState, lent, own, mades}
use Rattle.pgs_world.specs.Pool.{step_group, group_in, with_group, made_in, AreApart}
use Rattle.pgs_world.specs.Steps.{given_back, stepped_by, stepped_in, queued, stepped, after_step}
use Rattle.pgs_world.specs.Named.{IsNamedBy, IsNamedOf, IsNamedStep}
use Rattle.pgs_world.specs.Sound.{IsSound}
use Rattle.pgs_world.proofs.Groups.{is_of, group_nowhere, group_at, group_set, group_numbered, group_made, mades_with, one_of, all_with}

-- ---- the lines of another group

-- a line of one group acknowledges no write of another
of_other : (made : Made) (members : List Member) (past : List Event) (number : ℕ) (line : Done) → ((number ≡ made.number) → ⊥) → IsOf number line → StillHolds made members past line
of_other made members past number (dones.Write client serial object context op answer) apart own = tt
of_other made members past number (dones.Admit client serial answer) apart own = tt
of_other made members past number (dones.Collect group client serial (collects.StillParked chunk)) apart own = tt
of_other made members past number (dones.Collect group client serial (collects.Refused refusal)) apart own = tt
of_other made members past number (dones.Collect group client serial collects.Unknown) apart own = tt
of_other made members past number (dones.Collect group client serial (collects.NotYet osd count)) apart own = tt
of_other made members past number (dones.Collect group client serial (collects.Acked version)) apart own = λ is. absurd (apart (sym own ∙ is))
of_other made members past number (dones.Pull group osd from to asked) apart own = tt
of_other made members past number (dones.Apply group osd answer) apart own = tt
of_other made members past number (dones.Tell group osd count) apart own = tt
of_other made members past number (dones.Damage group osd object snap damage answer) apart own = tt
of_other made members past number (dones.Begin group kind answer) apart own = tt
of_other made members past number (dones.Open group answer) apart own = tt
of_other made members past number (dones.Scan group osd answer) apart own = tt
of_other made members past number (dones.Take group osd answer) apart own = tt
of_other made members past number (dones.Close group answer) apart own = tt
of_other made members past number (dones.Interval group osds answer) apart own = tt
of_other made members past number (dones.Claim group answer) apart own = tt
of_other made members past number (dones.Release group osd answer) apart own = tt
of_other made members past number (dones.Job group kind rank moment answer) apart own = tt
of_other made members past number (dones.Unjob group answer) apart own = tt
of_other made members past number (dones.Pick moment answer) apart own = tt
of_other made members past number (dones.Listed text) apart own = tt

behind : (made : Made) (members : List Member) (past : List Event) (number : ℕ) (front old : List Done) → ((number ≡ made.number) → ⊥) → AllByRecursion (IsOf number) front
    → AreAcknowledged made members past old → AreAcknowledged made members past (front ++ old)
behind made members past number [] old apart own acks = acks
behind made members past number (line ∷ front) old apart own acks =
    (of_other made members past number line apart own.0, behind made members past number front old apart own.1 acks)

acks_on : (made : Made) (members : List Member) (past : List Event) (number : ℕ) (old new : List Done) → ((number ≡ made.number) → ⊥) → Adds number old new
    → AreAcknowledged made members past old → AreAcknowledged made members past new
acks_on made members past number old new apart adds acks = subst (AreAcknowledged made members past) (sym adds.is) (behind made members past number adds.front old apart adds.own acks)

-- ---- a step of one group

-- a group that made no step has the slots and the lines that another gave back
other_sound : (w : WorldState) (group : GroupState) (number : ℕ) (slots : List Row) (lines : List Done) → ((number ≡ group.made.number) → ⊥) → AreRowsSized slots → Adds number w.done lines
    → IsSoundGroup (lent w group) → IsSoundGroup (record (lent w group) { slots = slots; done = lines })
other_sound w group number slots lines apart sized adds s = record {
  steady = steady_lent (lent w group) slots lines s.steady sized (acks_on group.made group.members group.past number w.done lines apart adds s.steady.acknowledged);
  idle = s.idle;
}

same_apart : (a b : List Made) → a ≡ b → AreApart b → AreApart a
same_apart a b e apart = subst AreApart (sym e) apart

-- what is sound, with the groups made as before
pub record IsOnward (start now : WorldState) : Type 0 where
  pub sound : IsSound now
  pub bits : now.bits ≡ start.bits
  pub same : mades now.groups ≡ mades start.groups

group_on : (w : WorldState) (number : ℕ) (group : GroupState) (step : Step) → IsSound w → group_in w.groups number ≡ Some group → IsNamedIn group.made step
    → IsOnward w (given_back number (placement_after (lent w group) step) w)
group_on w number group step s is named =
    let now : PlacementState = placement_after (lent w group) step in
    let on = on_step (lent w group) step (one_of (λ g. IsSoundGroup (lent w g)) w.groups number group s.each is) named in
    let own_number : group.made.number ≡ number = group_numbered w.groups number group is in
    let adds : Adds number w.done now.done = subst (λ n. Adds n w.done now.done) own_number on.adds in
    let same = mades_with w.groups number group (own now) is on.same in
    record {
      sound = record {
        each = all_with (λ g. IsSoundGroup (lent w g)) (λ g. IsSoundGroup (lent (given_back number now w) g)) w.groups number (own now) s.apart on.sound
            (λ g apart. other_sound w g number now.slots now.done apart on.sound.steady.sized adds) s.each;
        apart = same_apart (mades (with_group number (own now) w.groups)) (mades w.groups) same s.apart;
        few = s.few;
        sized = on.sound.steady.sized;
      };
      bits = refl;
      same = same;
    }

onward_itself : (w : WorldState) → IsSound w → IsOnward w w
onward_itself w s = record { sound = s; bits = refl; same = refl }

named_of : (w : WorldState) (number : ℕ) (group : GroupState) (step : Step) → group_in w.groups number ≡ Some group → IsNamedOf (Some number) (mades w.groups) step → IsNamedIn group.made step
named_of w number group step is named = subst (λ made. IsNamedBy made step) (group_made w.groups number group is) named

by_on : (w : WorldState) (number : ℕ) (found : Option GroupState) (step : Step) → IsSound w → group_in w.groups number ≡ found → IsNamedOf (Some number) (mades w.groups) step
    → IsOnward w (stepped_by found number w step)
by_on w number None step s is named = onward_itself w s
by_on w number (Some group) step s is named = group_on w number group step s is (named_of w number group step is named)

-- ---- a step of the queue

-- a line that no group's acknowledgements turn on
line_sound : (w : WorldState) (group : GroupState) (line : Done) → IsSoundGroup (lent w group) → StillHolds group.made group.members group.past line
    → IsSoundGroup (record (lent w group) { done = line ∷ w.done })
line_sound w group line s holds = record { steady = steady_lent (lent w group) w.slots (line ∷ w.done) s.steady s.steady.sized (holds, s.steady.acknowledged); idle = s.idle }

all_more : (P Q : GroupState → Type 0) (groups : List GroupState) → ((group : GroupState) → P group → Q group) → AllByRecursion P groups → AllByRecursion Q groups
all_more P Q [] more all = tt
all_more P Q (group ∷ groups) more all = (more group all.0, all_more P Q groups more all.1)

line_on : (w : WorldState) (line : Done) (jobs : List Job) → IsSound w → ((group : GroupState) → StillHolds group.made group.members group.past line)
    → IsOnward w (record w { jobs = jobs; done = line ∷ w.done })
line_on w line jobs s holds = record {
  sound = record {
    each = all_more (λ g. IsSoundGroup (lent w g)) (λ g. IsSoundGroup (record (lent w g) { done = line ∷ w.done })) w.groups (λ g sound. line_sound w g line sound (holds g)) s.each;
    apart = s.apart;
    few = s.few;
    sized = s.sized;
  };
  bits = refl;
  same = refl;
}

queued_on : (w : WorldState) (step : Step) → IsSound w → IsOnward w (queued w step)
queued_on w (steps.Basic (basics.Job group kind rank moment)) s = line_on w (dones.Job group kind rank moment _) _ s (λ g. tt)
queued_on w (steps.Basic (basics.Unjob group)) s = line_on w (dones.Unjob group _) _ s (λ g. tt)
queued_on w (steps.Basic (basics.Pick moment)) s = line_on w (dones.Pick moment _) _ s (λ g. tt)
queued_on w (steps.Basic (basics.Write client serial object context op)) s = onward_itself w s
queued_on w (steps.Basic (basics.Collect group client serial)) s = onward_itself w s
queued_on w (steps.Basic (basics.Pull group osd)) s = onward_itself w s
queued_on w (steps.Basic (basics.Apply group osd)) s = onward_itself w s
queued_on w (steps.Basic (basics.Tell group osd)) s = onward_itself w s
queued_on w (steps.Basic (basics.Damage group osd object snap damage)) s = onward_itself w s
queued_on w (steps.Basic (basics.Begin group kind)) s = onward_itself w s
queued_on w (steps.Basic (basics.Open group)) s = onward_itself w s
queued_on w (steps.Basic (basics.Scan group osd)) s = onward_itself w s
queued_on w (steps.Basic (basics.Take group osd)) s = onward_itself w s
queued_on w (steps.Basic (basics.Close group)) s = onward_itself w s
queued_on w (steps.Basic (basics.Claim group)) s = onward_itself w s
queued_on w (steps.Basic (basics.Release group osd)) s = onward_itself w s
queued_on w (steps.Basic (basics.Interval group osds)) s = onward_itself w s
queued_on w (steps.Settle group) s = onward_itself w s
queued_on w (steps.Sweep group kind) s = onward_itself w s
queued_on w (steps.ListObj group) s = onward_itself w s
queued_on w (steps.ListSnap group) s = onward_itself w s

-- ---- any step

step_by : (w : WorldState) (group : Option ℕ) (step : Step) → IsSound w → IsNamedOf group (mades w.groups) step → IsOnward w (stepped group w step)
step_by w None step s named = queued_on w step s
step_by w (Some number) step s named = by_on w number (group_in w.groups number) step s refl named

pub onward_step : (w : WorldState) (step : Step) → IsSound w → IsNamedStep w.bits (mades w.groups) step → IsOnward w (after_step w step)
onward_step w step s named = step_by w (step_group w.bits step) step s named

pub sound_step : (w : WorldState) (step : Step) → IsSound w → IsNamedStep w.bits (mades w.groups) step → IsSound (after_step w step)
sound_step w step s named = (onward_step w step s named).sound

-- ---- the code of a step of one group

-- the group is sound with the slots and with what was done
pub place_sound : (w : WorldState) (number : ℕ) (groups : List PlacementState) (at : ℕ) (group : PlacementState) → IsSound w → w.groups ≡ map own groups → position (is_of number) groups ≡ Some at
    → group ≡ get_or groups at group → IsSoundGroup (record group { slots = w.slots; done = w.done })
place_sound w number groups at group s e there is =
    one_of (λ g. IsSoundGroup (lent w g)) w.groups number (own group) s.each
    (ap (λ gs. group_in gs number) e ∙ group_at number groups at group there ∙ ap (λ g. Some (own g)) (sym is))

pub place_named : (w : WorldState) (number : ℕ) (groups : List PlacementState) (at : ℕ) (group : PlacementState) (step : Step) → w.groups ≡ map own groups → position (is_of number) groups ≡ Some at
    → group ≡ get_or groups at group → IsNamedOf (Some number) (mades w.groups) step → IsNamedIn group.made step
place_named w number groups at group step e there is named =
    named_of w number (own group) step (ap (λ gs. group_in gs number) e ∙ group_at number groups at group there ∙ ap (λ g. Some (own g)) (sym is)) named

-- the group is there
none_made : (groups : List GroupState) (number : ℕ) → group_in groups number ≡ None → made_in (mades groups) number ≡ None
none_made [] number e = refl
none_made (group ∷ groups) number e =
    let P : Bool → Type 0 = λ v. cond v (Some group) (group_in groups number) ≡ None → cond v (Some group.made) (made_in (mades groups) number) ≡ None in
    (elim (group.made.number == number) as P [
      | true ↦ λ some. absurd (some_none group some)
      | false ↦ λ none. none_made groups number none
    ]) e

pub place_there : (w : WorldState) (number : ℕ) (groups : List PlacementState) (step : Step) → w.groups ≡ map own groups → position (is_of number) groups ≡ None
    → IsNamedOf (Some number) (mades w.groups) step → ⊥
place_there w number groups step e none named =
    subst (λ made. IsNamedBy made step) (none_made w.groups number (ap (λ gs. group_in gs number) e ∙ group_nowhere number groups none)) named

-- what the world is seen as then
pub place_done : (bits : ℕ) (slots : List Row) (jobs : List Job) (lines : List Done) (w : WorldState) (number : ℕ) (groups : List PlacementState) (at : ℕ) (group new : PlacementState) (step : Step)
    (slots_now : List Row) (lines_now : List Done) → record { bits = bits; groups = map own groups; slots = slots; jobs = jobs; done = lines } ≡ w → position (is_of number) groups ≡ Some at
    → group ≡ get_or groups at group → own new ≡ own (placement_after (record group { slots = slots; done = lines }) step)
    → slots_now ≡ (placement_after (record group { slots = slots; done = lines }) step).slots → lines_now ≡ (placement_after (record group { slots = slots; done = lines }) step).done
    → record { bits = bits; groups = map own (set groups at new); slots = slots_now; jobs = jobs; done = lines_now } ≡ stepped_in number w step
place_done bits slots jobs lines w number groups at group new step slots_now lines_now view there is same slots_so lines_so =
    let first : WorldState = record { bits = bits; groups = map own groups; slots = slots; jobs = jobs; done = lines } in
    let now : PlacementState = placement_after (record group { slots = slots; done = lines }) step in
    let last : WorldState = record { bits = bits; groups = map own (set groups at new); slots = slots_now; jobs = jobs; done = lines_now } in
    let found : group_in (map own groups) number ≡ Some (own group) = group_at number groups at group there ∙ ap (λ g. Some (own g)) (sym is) in
    let placed : map own (set groups at new) ≡ with_group number (own now) (map own groups) = group_set number groups at new there ∙ ap (λ g. with_group number g (map own groups)) same in
    let made : last ≡ given_back number now first = λ i. record { bits = bits; groups = placed i; slots = slots_so i; jobs = jobs; done = lines_so i } in
    subst (λ (x : WorldState). last ≡ stepped_in number x step) view (made ∙ sym (ap (λ g. stepped_by g number first step) found))
