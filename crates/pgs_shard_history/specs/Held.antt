-- What a shard's copies hold, and what damage to one of them is answered.
use Rattle.std.specs.Prelude.{ℕ, ◌+◌, ◌-◌, ◌&&◌, nat_lt, Bool, List, if◌then◌else◌}
use Rattle.std.specs.List.{sum_by}
use Rattle.pgs_name.specs.Families.{Family}
use Rattle.pgs_name.specs.declared.object_id.ObjectId.{ObjectId}
use Rattle.pgs_copy.specs.Copies.{damaged}
use Rattle.pgs_copy.specs.declared.damage.Damage.{Damage}
use Rattle.pgs_store.specs.Firsts.{at_snap}
use Rattle.pgs_store.specs.Stores.{Stored, copy_size}
use Rattle.pgs_shard_history.specs.Positions.{positions}
use Rattle.pgs_shard_history.specs.Scanning.{is_being_read}
use Rattle.pgs_shard_history.specs.Stores.{stored_by}
use Rattle.pgs_shard_history.specs.declared.event.Event.{Event}
use Rattle.pgs_shard_history.specs.declared.damage_answer.DamageAnswer.{DamageAnswer}
use Rattle.pgs_shard_history.specs.declared.damage_answer.DamageAnswer.TheVariants.{Damaged, BeingRead, ShardFull}
use Rattle.pgs_shard_history.specs.declared.limits.TheConstants.{SHARD_MAX}

-- the bytes of the copies at some positions
abbrev pub bytes_at : Stored → List ObjectId → ℕ
bytes_at stored ids = sum_by (λ id. copy_size (stored id.family id.snap)) ids

-- the bytes of all copies that are stored
abbrev pub held : List Event → ℕ
held past = bytes_at (stored_by past) (positions past)

-- the bytes of a copy before damage to it, and after it: none where there is no copy
abbrev pub size_before : List Event → Family → ℕ → ℕ
size_before past family snap = copy_size (stored_by past family snap)

abbrev pub size_after : List Event → Family → ℕ → Damage → ℕ
size_after past family snap damage = copy_size (damaged damage (stored_by past family snap))

-- the bytes of all copies, without the damaged one as it was and with it as it is then
abbrev pub held_after : List Event → Family → ℕ → Damage → ℕ
held_after past family snap damage = held past - size_before past family snap + size_after past family snap damage

-- the copies would hold more than before, and more than they may
abbrev pub is_too_much : List Event → Family → ℕ → Damage → Bool
is_too_much past family snap damage = nat_lt (size_before past family snap) (size_after past family snap damage) && nat_lt SHARD_MAX (held_after past family snap damage)

-- what damage is answered to a copy that isn't being read: it is done, unless the copies would then hold too much
abbrev pub room_answer : List Event → Family → ℕ → Damage → DamageAnswer
room_answer past family snap damage = if is_too_much past family snap damage then ShardFull (held_after past family snap damage) else Damaged

-- a copy isn't damaged while a scan is reading it
abbrev pub damage_answer : List Event → Family → ℕ → Damage → DamageAnswer
damage_answer past family snap damage = if is_being_read past (at_snap family snap) then BeingRead else room_answer past family snap damage
