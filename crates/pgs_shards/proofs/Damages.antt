-- What damage leaves of a shard in memory.
use Rattle.std.proofs.Common.{◌≡◌, ℕ, ◌∷◌, IfOk, OnOk, OnErr, Result, Ok, Err, ap, ◌∙◌}
use Rattle.pgs_name.specs.Families.{Family}
use Rattle.pgs_copy.specs.declared.damage.Damage.{Damage}
use Rattle.pgs_medium.specs.Device.{Device}
use Rattle.pgs_medium.specs.Ram.{device_of}
use Rattle.pgs_medium.specs.declared.ram_medium.RamMedium.{RamMedium}
use Rattle.pgs_shard_history.specs.Held.{damage_answer}
use Rattle.pgs_shard_history.specs.declared.damage_answer.DamageAnswer.{DamageAnswer}
use Rattle.pgs_shard_history.specs.declared.damage_answer.DamageAnswer.TheVariants as answers
use Rattle.pgs_shard_history.specs.declared.event.Event.TheVariants as events
use Rattle.pgs_shard.specs.Answers.{IsDamaged, past_after_damage}
use Rattle.pgs_shard.specs.State.{ShardState}
use Rattle.pgs_shards.specs.Damages.{after_damage}
use Rattle.pgs_shards.specs.Devices.{calls_seen}
use Rattle.pgs_shards.specs.Kept.{seen}

abbrev Shard : Type 0
Shard = ShardState RamMedium

-- it is no call of the device
uncalled_by : (E : Type 0) (family : Family) (snap : ℕ) (damage : Damage) (old new : Device) (result : Result DamageAnswer E) → IsDamaged family snap damage old result new
    → calls_seen new ≡ calls_seen old
uncalled_by E family snap damage old new (Ok answers.Damaged) h = ap calls_seen h
uncalled_by E family snap damage old new (Ok answers.BeingRead) h = ap calls_seen h
uncalled_by E family snap damage old new (Ok (answers.ShardFull bytes)) h = ap calls_seen h
uncalled_by E family snap damage old new (Err e) h = ap calls_seen h

pub damage_kept : {E : Type 0} (old new : Shard) (family : Family) (snap : ℕ) (damage : Damage) (result : Result DamageAnswer E)
    → IfOk result (λ a. a ≡ damage_answer old.past family snap damage) → IsDamaged family snap damage (device_of old.medium) result (device_of new.medium)
    → new.past ≡ past_after_damage family snap damage result old.past → new.osd ≡ old.osd
    → OnOk result (seen new ≡ after_damage family snap damage (seen old))
damage_kept {E} old new family snap damage (Ok answer) is h p o =
    let d = uncalled_by E family snap damage (device_of old.medium) (device_of new.medium) (Ok answer) h in
    (λ i. record { osd = o i; past = p i; device = d i })
    ∙ (λ i. record { osd = old.osd; past = events.Damaged family snap damage (is i) ∷ old.past; device = calls_seen (device_of old.medium) })
damage_kept old new family snap damage (Err e) is h p o = tt

pub damage_lost : {E : Type 0} (old new : Shard) (family : Family) (snap : ℕ) (damage : Damage) (result : Result DamageAnswer E)
    → IsDamaged family snap damage (device_of old.medium) result (device_of new.medium)
    → new.past ≡ past_after_damage family snap damage result old.past → new.osd ≡ old.osd → OnErr result (seen new ≡ seen old)
damage_lost old new family snap damage (Ok answer) h p o = tt
damage_lost {E} old new family snap damage (Err e) h p o =
    let d = uncalled_by E family snap damage (device_of old.medium) (device_of new.medium) (Err e) h in
    λ i. record { osd = o i; past = p i; device = d i }

pub ruleset damages = (damage_kept, damage_lost)
