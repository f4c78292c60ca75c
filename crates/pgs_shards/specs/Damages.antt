-- Damage to a copy that a member stores.
use Rattle.std.specs.Prelude.{ℕ, List}
use Rattle.pgs_name.specs.Families.{Family}
use Rattle.pgs_copy.specs.declared.damage.Damage.{Damage}
use Rattle.pgs_shard_history.specs.Held.{damage_answer}
use Rattle.pgs_shard_history.specs.declared.damage_answer.DamageAnswer.{DamageAnswer}
use Rattle.pgs_shard_history.specs.declared.damage_answer.DamageAnswer.TheVariants as answers
use Rattle.pgs_shard_history.specs.declared.event.Event.TheVariants.{Damaged}
use Rattle.pgs_shards.specs.Members.{Member, of_member, with_member, after_event}

-- a member after damage, which it keeps with its answer. The damage is no call of its device
abbrev pub after_damage : Family → ℕ → Damage → Member → Member
after_damage family snap damage member = after_event (Damaged family snap damage (damage_answer member.past family snap damage)) member

-- of an OSD: where it is no member the damage is done, and nothing is kept of it
abbrev pub damage_in : List Member → ℕ → Family → ℕ → Damage → DamageAnswer
damage_in members osd family snap damage = of_member (λ member. damage_answer member.past family snap damage) answers.Damaged members osd

abbrev pub with_damage : ℕ → Family → ℕ → Damage → List Member → List Member
with_damage osd family snap damage members = with_member osd (after_damage family snap damage) members
