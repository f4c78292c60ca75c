use Rattle.std.proofs.Common.{rules, true, false, ◌≡◌, Some, Ok, Err, reverse, subst, sym, arith}
use Rattle.std.proofs.lemmas.List.{reverse-append}
use Rattle.pgs_medium.specs.declared.medium_error.MediumError.TheVariants as errors
use Rattle.pgs_scan.specs.Calls.{IsCalled, IsOnlyRead}
use Rattle.pgs_medium.specs.declared.call_kind.CallKind.TheVariants as kinds
use Rattle.pgs_shard.specs.Steps.{IsListedFor, MayListNext}
use Rattle.pgs_shard_history.specs.Scanning.{scanning}
use Rattle.pgs_shard_history.specs.Stores.{applied}
use Rattle.pgs_shard.specs.Scans.{IsScanLeft}
use Rattle.pgs_shard.proofs.Ties.{room_some, room_kept}
use Rattle.pgs_shard.proofs.Steps.{tied_found, found_due, listed_called, failed_called, tied_listed, listed_only, unlisted_only}
use Rattle.pgs_shard.proofs.shard.Shard.scan_next.Goals as goal

pub invariant_of-self-in_err-found-in-Ok-Some : goal.invariant_of-self-in_err-found-in-Ok-Some
invariant_of-self-in_err-found-in-Ok-Some g c =
    let some : c.in-Ok-Some.field-0 ≡ Some c.in-Ok-Some.id = search rules in
    let listed = subst (λ a. IsListedFor c.self.inside.scan.ask c.self.inside.scan.last (g.M.Medium.device c.self.inside.medium) (Ok a) (g.M.Medium.device c.next_of.new.medium)) some c.in-Ok-Some.ensures in
    rw c.reserve.ensures.items
    (tied_listed _ _ _ _ _ _ _ _ _ c.self.invariant.0 listed, room_kept _ _ _ _ _ c.self.invariant.1 c.reserve.ensures.len c.reserve.ensures.capacity)

pub returns-in_ok-found-in-Ok-Some-2-clause-answer : goal.returns-in_ok-found-in-Ok-Some-2-clause-answer
returns-in_ok-found-in-Ok-Some-2-clause-answer g c =
    let some : c.in-Ok-Some.field-0 ≡ Some c.in-Ok-Some.id = search rules in
    let listed = subst (λ a. IsListedFor c.self.inside.scan.ask c.self.inside.scan.last (g.M.Medium.device c.self.inside.medium) (Ok a) (g.M.Medium.device c.next_of.new.medium)) some c.in-Ok-Some.ensures in
    let same : reverse c.self.inside.events.items ≡ c.args.self.now.past = search rules in
    found_due _ _ _ _ _ _ _ _ _ _ c.self.invariant.0 same c.requires listed

pub returns-in_ok-found-in-Ok-Some-2-clause-device : goal.returns-in_ok-found-in-Ok-Some-2-clause-device
returns-in_ok-found-in-Ok-Some-2-clause-device g c =
    let medium : c.self.inside.medium ≡ c.args.self.now.medium = search rules in
    subst (λ m. IsCalled kinds.List false (g.M.Medium.device m) (g.M.Medium.device c.next_of.new.medium)) medium (listed_called _ _ _ _ _ c.in-Ok-Some.ensures)

pub returns-in-Err-Failed-clause-device : goal.returns-in-Err-Failed-clause-device
returns-in-Err-Failed-clause-device g c =
    let is : c.in-Err-Failed.field-0 ≡ errors.Failed = search rules in
    let listed = subst (λ e. IsListedFor c.self.inside.scan.ask c.self.inside.scan.last (g.M.Medium.device c.self.inside.medium) (Err e) (g.M.Medium.device c.next_of.new.medium)) is c.in-Err-Failed.ensures in
    let medium : c.self.inside.medium ≡ c.args.self.now.medium = search rules in
    (subst (λ m. IsCalled kinds.List true (g.M.Medium.device m) (g.M.Medium.device c.next_of.new.medium)) medium (failed_called _ _ _ _ listed), c.faults-count.ensures)

pub returns-in-Err-Memory-clause-device : goal.returns-in-Err-Memory-clause-device
returns-in-Err-Memory-clause-device g c =
    let is : c.in-Err-Memory.field-0 ≡ errors.Memory = search rules in
    let listed = subst (λ e. IsListedFor c.self.inside.scan.ask c.self.inside.scan.last (g.M.Medium.device c.self.inside.medium) (Err e) (g.M.Medium.device c.next_of.new.medium)) is c.in-Err-Memory.ensures in
    let medium : c.self.inside.medium ≡ c.args.self.now.medium = search rules in
    subst (λ m. IsOnlyRead (g.M.Medium.device m) (g.M.Medium.device c.next_of.new.medium)) medium (unlisted_only _ _ _ _ listed)

pub invariant_of-self-in-Ok-Some : goal.invariant_of-self-in-Ok-Some
invariant_of-self-in-Ok-Some g c =
    let some : c.in-Ok-Some.field-0 ≡ Some c.in-Ok-Some.id = search rules in
    let listed = subst (λ a. IsListedFor c.self.inside.scan.ask c.self.inside.scan.last (g.M.Medium.device c.self.inside.medium) (Ok a) (g.M.Medium.device c.next_of.new.medium)) some c.in-Ok-Some.ensures in
    let may : MayListNext (scanning (reverse c.self.inside.events.items)).ask (scanning (reverse c.self.inside.events.items)) (applied (reverse c.self.inside.events.items)) = search rules in
    rw (c.push_reserved.ensures.items, c.scanned.ensures, c.reserve.ensures.items, reverse-append) (
      tied_found _ _ _ _ _ _ _ _ _ c.in-Ok-Some.id c.in_ok-last-in-Ok-Some.last c.in_ok-found-in-Ok-Some.found c.self.invariant.0 may listed (search rules) (search rules) (search rules),
      room_some _ _ _ (omega (arith, c.in_ok-reserve.ensures.ok, c.push_reserved.ensures.len, c.push_reserved.ensures.capacity, c.reserve.ensures.len)),
    )

pub invariant_of-self-in_err-found-in-Ok-Some-2 : goal.invariant_of-self-in_err-found-in-Ok-Some-2
invariant_of-self-in_err-found-in-Ok-Some-2 g c =
    let some : c.in-Ok-Some.field-0 ≡ Some c.in-Ok-Some.id = search rules in
    let listed = subst (λ a. IsListedFor c.self.inside.scan.ask c.self.inside.scan.last (g.M.Medium.device c.self.inside.medium) (Ok a) (g.M.Medium.device c.next_of.new.medium)) some c.in-Ok-Some.ensures in
    let kept : c.found.new.self ≡ c.self.inside.scan = search rules in
    rw (c.reserve.ensures.items, kept)
    (tied_listed _ _ _ _ _ _ _ _ _ c.self.invariant.0 listed, room_kept _ _ _ _ _ c.self.invariant.1 c.reserve.ensures.len c.reserve.ensures.capacity)

pub returns-in_err-found-in-Ok-Some-2-clause-device :
    goal.returns-in_err-found-in-Ok-Some-2-clause-device
returns-in_err-found-in-Ok-Some-2-clause-device g c =
    let medium : c.self.inside.medium ≡ c.args.self.now.medium = search rules in
    let only = subst (λ m. IsOnlyRead (g.M.Medium.device m) (g.M.Medium.device c.next_of.new.medium)) medium (listed_only _ _ _ _ _ c.in-Ok-Some.ensures) in
    let e : c.from_residual-in_err-found-in-Ok-Some-2.result ≡ Err c.in_err-found-in-Ok-Some-2.field-0.0 = search rules in
    subst (λ r. IsScanLeft c.args.self.now.stride (scanning c.args.self.now.past) (g.M.Medium.device c.args.self.now.medium) r (g.M.Medium.device c.next_of.new.medium)) (sym e) only
