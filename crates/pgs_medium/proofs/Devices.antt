-- Devices whose stores hold the same are the same.
use Rattle.std.proofs.Common.{◌≡◌, List, Option}
use Rattle.pgs_store.specs.Stores.{Stored, AreSame, nothing_stored}
use Rattle.pgs_medium.specs.Device.{Device, empty_device}
use Rattle.pgs_medium.specs.declared.failing_call.FailingCall.{FailingCall}

pub same_stored : (a b : Stored) → AreSame a b → a ≡ b
same_stored a b same = λ i f q. same f q i

pub with_stored : (d : Device) (a b : Stored) → AreSame a b → record d { stored = a } ≡ record d { stored = b }
with_stored d a b same = λ i. record d { stored = same_stored a b same i }

pub begun : (a : Stored) (failing : Option (List FailingCall)) → AreSame a nothing_stored → record (empty_device failing) { stored = a } ≡ empty_device failing
begun a failing same = with_stored (empty_device failing) a nothing_stored same
