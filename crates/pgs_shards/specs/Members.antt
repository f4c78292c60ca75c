-- The shards of a group's members are seen as the list of their OSDs, each with its events, the newest first, and its device.
use Rattle.std.specs.Prelude.{ℕ, ◌==◌, List, [], ◌∷◌, map, Some, if◌then◌else◌}
use Rattle.pgs_shard_history.specs.declared.event.Event.{Event}
use Rattle.pgs_shards.specs.Devices.{DeviceCalls, uncalled}
use Rattle.pgs_shards.specs.declared.osd_device.OsdDevice.{OsdDevice}

pub record Member : Type 0 where
  pub osd : ℕ
  pub past : List Event
  pub device : DeviceCalls

-- the members' shards: how many bytes each reads of a copy at a step, and the members in declared order
pub record ShardsState : Type 0 where
  pub stride : ℕ
  pub all : List Member

-- members of which nothing is known yet, over devices that hold nothing and are to fail these calls
abbrev pub begun : OsdDevice → Member
begun device = record { osd = device.osd; past = []; device = uncalled (Some device.failing) }

abbrev pub beginning : List OsdDevice → List Member
beginning devices = map begun devices

-- what is told of the member of an OSD, and something else where the OSD is no member
abbrev pub of_member : {A : Type 0} → (Member → A) → A → List Member → ℕ → A
of_member tell none [] osd = none
of_member tell none (member ∷ members) osd = if member.osd == osd then tell member else of_member tell none members osd

-- the members after the member of an OSD changed so
abbrev pub with_member : ℕ → (Member → Member) → List Member → List Member
with_member osd change [] = []
with_member osd change (member ∷ members) = if member.osd == osd then change member ∷ members else member ∷ with_member osd change members

-- the events of an OSD: none where it is no member
abbrev pub past_in : List Member → ℕ → List Event
past_in members osd = of_member (λ member. member.past) [] members osd

-- its device: where it is no member, one of which no call was made or is to fail
abbrev pub device_in : List Member → ℕ → DeviceCalls
device_in members osd = of_member (λ member. member.device) (uncalled (Some [])) members osd

-- the members with a history in place of an OSD's
abbrev pub with_past : ℕ → List Event → List Member → List Member
with_past osd past members = with_member osd (λ member. record member { past = past }) members

-- or with another device
abbrev pub with_device : ℕ → DeviceCalls → List Member → List Member
with_device osd device members = with_member osd (λ member. record member { device = device }) members

-- a member after an event that its device has no part in
abbrev pub after_event : Event → Member → Member
after_event event member = record member { past = event ∷ member.past }

abbrev pub with_event : ℕ → Event → List Member → List Member
with_event osd event members = with_member osd (after_event event) members
