use Rattle.std.proofs.Common.{rules, ◌≡◌, Some, None, Ok, Err, true, false, subst, sym, arith}
use Rattle.std.proofs.lemmas.List.{reverse-append}
use Rattle.pgs_scan.specs.Calls.{IsBegun, IsOnlyRead}
use Rattle.pgs_scan.specs.declared.mark.Mark.TheVariants as marks
use Rattle.pgs_scan.proofs.Calls.{begun_kept}
use Rattle.pgs_shard_history.specs.Legal.{IsGoingOn, IsPassing}
use Rattle.pgs_shard_history.specs.Scanning.{scanning, is_deep}
use Rattle.pgs_shard.specs.Scans.{IsScanLeft, IsReadCall}
use Rattle.pgs_shard.specs.Steps.{IsStatNext}
use Rattle.pgs_shard.proofs.Ties.{room_some, room_kept}
use Rattle.pgs_shard.proofs.Steps.{stat_last, stat_there, tied_only_read, tied_begun, tied_shallow, tied_unread, begun_call, unread_call}
use Rattle.pgs_shard.proofs.shard.Shard.scan_stat.Goals as goal

pub last-requires : goal.last-requires
last-requires g c =
    let next = subst (λ v. IsStatNext (scanning v.past)) (sym c.self.view_is) c.requires in
    stat_last _ _ _ _ _ _ _ c.self.invariant.0 next

pub begin-requires : goal.begin-requires
begin-requires g c =
    let next = subst (λ v. IsStatNext (scanning v.past)) (sym c.self.view_is) c.requires in
    stat_there _ _ _ _ _ _ _ c.in_ok-id.id c.self.invariant.0 next c.in_ok-id.ensures

pub invariant_of-self-in_err-begin : goal.invariant_of-self-in_err-begin
invariant_of-self-in_err-begin g c =
    rw c.reserve.ensures.items
    (tied_only_read _ _ _ _ _ _ _ _ c.self.invariant.0 (begun_kept _ _ _ _ c.in_err-begin.ensures), room_kept _ _ _ _ _ c.self.invariant.1 c.reserve.ensures.len c.reserve.ensures.capacity)

pub returns-in_err-begin-clause-device : goal.returns-in_err-begin-clause-device
returns-in_err-begin-clause-device g c =
    let e : c.from_residual-in_err-begin.result ≡ Err c.in_err-begin.field-0.0 = search rules in
    subst (λ r. IsScanLeft c.args.self.now.stride (scanning c.args.self.now.past) (g.M.Medium.device c.args.self.now.medium) r (g.M.Medium.device c.begin.new.medium)) (sym e)
    (subst (λ v. IsOnlyRead (g.M.Medium.device v.medium) (g.M.Medium.device c.begin.new.medium)) c.self.view_is (begun_kept _ _ _ _ c.in_err-begin.ensures))

pub invariant_of-self-in-None : goal.invariant_of-self-in-None
invariant_of-self-in-None g c =
    let next = subst (λ v. IsStatNext (scanning v.past)) (sym c.self.view_is) c.requires in
    let none : c.in_ok-begin.field-0 ≡ None = search rules in
    let begun = subst (λ a. IsBegun ((g.M.Medium.device c.self.inside.medium).stored c.in_ok-id.id.family c.in_ok-id.id.snap) (g.M.Medium.device c.self.inside.medium) (Ok a) (g.M.Medium.device c.begin.new.medium)) none c.in_ok-begin.ensures in
    let kept : c.in_ok-kept.kept ≡ c.in_ok-id.id = search rules in
    rw (c.push_reserved.ensures.items, c.passed.ensures, c.reserve.ensures.items, reverse-append, kept) (
      tied_unread _ _ _ _ _ _ _ _ _ _ c.in_ok-id.id c.unread_entry.result c.self.invariant.0 next c.in_ok-id.ensures begun c.unread_entry.ensures c.pass.ensures,
      room_some _ _ _ (omega (arith, c.in_ok-reserve.ensures.ok, c.push_reserved.ensures.len, c.push_reserved.ensures.capacity, c.reserve.ensures.len)),
    )

pub invariant_of-self-then-is_deep : goal.invariant_of-self-then-is_deep
invariant_of-self-then-is_deep g c =
    let next = subst (λ v. IsStatNext (scanning v.past)) (sym c.self.view_is) c.requires in
    let some : c.in_ok-begin.field-0 ≡ Some c.in-Some.reading = search rules in
    let begun = subst (λ a. IsBegun ((g.M.Medium.device c.self.inside.medium).stored c.in_ok-id.id.family c.in_ok-id.id.snap) (g.M.Medium.device c.self.inside.medium) (Ok a) (g.M.Medium.device c.begin.new.medium)) some c.in_ok-begin.ensures in
    let deep : is_deep c.self.inside.scan.ask ≡ true = search rules in
    rw (c.push_reserved-then-is_deep.ensures.items, c.scanned.ensures, c.reserve.ensures.items, reverse-append) (
      tied_begun _ _ _ _ _ _ _ _ _ _ c.in_ok-id.id c.in-Some.reading c.self.invariant.0 next c.in_ok-id.ensures deep begun c.go_on.ensures,
      room_some _ _ _ (omega (arith, c.in_ok-reserve.ensures.ok, c.push_reserved-then-is_deep.ensures.len, c.push_reserved-then-is_deep.ensures.capacity, c.reserve.ensures.len)),
    )

pub returns-then-is_deep-clause-answer : goal.returns-then-is_deep-clause-answer
returns-then-is_deep-clause-answer g c =
    let next = subst (λ v. IsStatNext (scanning v.past)) (sym c.self.view_is) c.requires in
    let some : c.in_ok-begin.field-0 ≡ Some c.in-Some.reading = search rules in
    let begun = subst (λ a. IsBegun ((g.M.Medium.device c.self.inside.medium).stored c.in_ok-id.id.family c.in_ok-id.id.snap) (g.M.Medium.device c.self.inside.medium) (Ok a) (g.M.Medium.device c.begin.new.medium)) some c.in_ok-begin.ensures in
    let deep : is_deep c.self.inside.scan.ask ≡ true = search rules in
    subst (λ v. IsGoingOn v.stride (scanning v.past) (scanning v.past).copy) c.self.view_is
    (tied_begun _ _ _ _ _ _ _ _ _ _ c.in_ok-id.id c.in-Some.reading c.self.invariant.0 next c.in_ok-id.ensures deep begun c.go_on.ensures).legal.0

pub returns-then-is_deep-clause-device : goal.returns-then-is_deep-clause-device
returns-then-is_deep-clause-device g c =
    let next = subst (λ v. IsStatNext (scanning v.past)) (sym c.self.view_is) c.requires in
    let some : c.in_ok-begin.field-0 ≡ Some c.in-Some.reading = search rules in
    let begun = subst (λ a. IsBegun ((g.M.Medium.device c.self.inside.medium).stored c.in_ok-id.id.family c.in_ok-id.id.snap) (g.M.Medium.device c.self.inside.medium) (Ok a) (g.M.Medium.device c.begin.new.medium)) some c.in_ok-begin.ensures in
    subst (λ v. IsReadCall v.stride (scanning v.past).steps (scanning v.past).copy false (g.M.Medium.device v.medium) (g.M.Medium.device c.begin.new.medium)) c.self.view_is
    (begun_call _ _ _ _ _ _ _ _ _ c.in_ok-id.id c.in-Some.reading c.self.invariant.0 next c.in_ok-id.ensures begun)

pub invariant_of-self-in-Some : goal.invariant_of-self-in-Some
invariant_of-self-in-Some g c =
    let next = subst (λ v. IsStatNext (scanning v.past)) (sym c.self.view_is) c.requires in
    let some : c.in_ok-begin.field-0 ≡ Some c.in-Some.reading = search rules in
    let begun = subst (λ a. IsBegun ((g.M.Medium.device c.self.inside.medium).stored c.in_ok-id.id.family c.in_ok-id.id.snap) (g.M.Medium.device c.self.inside.medium) (Ok a) (g.M.Medium.device c.begin.new.medium)) some c.in_ok-begin.ensures in
    let shallow : is_deep c.self.inside.scan.ask ≡ false = search rules in
    let kept : c.in_ok-kept.kept ≡ c.in_ok-id.id = search rules in
    rw (c.push_reserved-in-Some.ensures.items, c.passed-in-Some.ensures, c.reserve.ensures.items, reverse-append, kept) (
      tied_shallow _ _ _ _ _ _ _ _ _ _ c.in_ok-id.id c.in-Some.reading c.into_shallow_entry.result c.self.invariant.0 next c.in_ok-id.ensures shallow begun c.into_shallow_entry.ensures c.pass-in-Some.ensures,
      room_some _ _ _ (omega (arith, c.in_ok-reserve.ensures.ok, c.push_reserved-in-Some.ensures.len, c.push_reserved-in-Some.ensures.capacity, c.reserve.ensures.len)),
    )

pub returns-in-None-clause-answer : goal.returns-in-None-clause-answer
returns-in-None-clause-answer g c =
    let next = subst (λ v. IsStatNext (scanning v.past)) (sym c.self.view_is) c.requires in
    let none : c.in_ok-begin.field-0 ≡ None = search rules in
    let begun = subst (λ a. IsBegun ((g.M.Medium.device c.self.inside.medium).stored c.in_ok-id.id.family c.in_ok-id.id.snap) (g.M.Medium.device c.self.inside.medium) (Ok a) (g.M.Medium.device c.begin.new.medium)) none c.in_ok-begin.ensures in
    let told : c.in_ok-told.told ≡ c.in_ok-id.id = search rules in
    subst (λ o. IsPassing c.args.self.now.stride (scanning c.args.self.now.past) (scanning c.args.self.now.past).copy o marks.StatError) (sym told)
    (subst (λ v. IsPassing v.stride (scanning v.past) (scanning v.past).copy c.in_ok-id.id marks.StatError) c.self.view_is
    (tied_unread _ _ _ _ _ _ _ _ _ _ c.in_ok-id.id c.unread_entry.result c.self.invariant.0 next c.in_ok-id.ensures begun c.unread_entry.ensures c.pass.ensures).legal.0)

pub returns-in-None-clause-device : goal.returns-in-None-clause-device
returns-in-None-clause-device g c =
    let next = subst (λ v. IsStatNext (scanning v.past)) (sym c.self.view_is) c.requires in
    let none : c.in_ok-begin.field-0 ≡ None = search rules in
    let begun = subst (λ a. IsBegun ((g.M.Medium.device c.self.inside.medium).stored c.in_ok-id.id.family c.in_ok-id.id.snap) (g.M.Medium.device c.self.inside.medium) (Ok a) (g.M.Medium.device c.begin.new.medium)) none c.in_ok-begin.ensures in
    subst (λ v. IsReadCall v.stride (scanning v.past).steps (scanning v.past).copy true (g.M.Medium.device v.medium) (g.M.Medium.device c.begin.new.medium)) c.self.view_is
    (unread_call _ _ _ _ _ _ _ _ _ c.in_ok-id.id c.self.invariant.0 next c.in_ok-id.ensures begun)

pub returns-else-is_deep-clause-answer : goal.returns-else-is_deep-clause-answer
returns-else-is_deep-clause-answer g c =
    let next = subst (λ v. IsStatNext (scanning v.past)) (sym c.self.view_is) c.requires in
    let some : c.in_ok-begin.field-0 ≡ Some c.in-Some.reading = search rules in
    let begun = subst (λ a. IsBegun ((g.M.Medium.device c.self.inside.medium).stored c.in_ok-id.id.family c.in_ok-id.id.snap) (g.M.Medium.device c.self.inside.medium) (Ok a) (g.M.Medium.device c.begin.new.medium)) some c.in_ok-begin.ensures in
    let shallow : is_deep c.self.inside.scan.ask ≡ false = search rules in
    let told : c.in_ok-told.told ≡ c.in_ok-id.id = search rules in
    subst (λ o. IsPassing c.args.self.now.stride (scanning c.args.self.now.past) (scanning c.args.self.now.past).copy o marks.Fine) (sym told)
    (subst (λ v. IsPassing v.stride (scanning v.past) (scanning v.past).copy c.in_ok-id.id marks.Fine) c.self.view_is
    (tied_shallow _ _ _ _ _ _ _ _ _ _ c.in_ok-id.id c.in-Some.reading c.into_shallow_entry.result c.self.invariant.0 next c.in_ok-id.ensures shallow begun c.into_shallow_entry.ensures c.pass-in-Some.ensures).legal.0)

pub returns-else-is_deep-clause-device : goal.returns-else-is_deep-clause-device
returns-else-is_deep-clause-device g c =
    let next = subst (λ v. IsStatNext (scanning v.past)) (sym c.self.view_is) c.requires in
    let some : c.in_ok-begin.field-0 ≡ Some c.in-Some.reading = search rules in
    let begun = subst (λ a. IsBegun ((g.M.Medium.device c.self.inside.medium).stored c.in_ok-id.id.family c.in_ok-id.id.snap) (g.M.Medium.device c.self.inside.medium) (Ok a) (g.M.Medium.device c.begin.new.medium)) some c.in_ok-begin.ensures in
    subst (λ v. IsReadCall v.stride (scanning v.past).steps (scanning v.past).copy false (g.M.Medium.device v.medium) (g.M.Medium.device c.begin.new.medium)) c.self.view_is
    (begun_call _ _ _ _ _ _ _ _ _ c.in_ok-id.id c.in-Some.reading c.self.invariant.0 next c.in_ok-id.ensures begun)
