use Rattle.std.proofs.Common.{rules, ◌≡◌, Ok, Err, true, false, subst, sym, arith}
use Rattle.std.proofs.lemmas.List.{reverse-append}
use Rattle.pgs_scan.specs.Calls.{IsOnlyRead}
use Rattle.pgs_scan.specs.declared.mark.Mark.TheVariants as marks
use Rattle.pgs_scan.specs.declared.reading_step.ReadingStep.TheVariants as readings
use Rattle.pgs_shard_history.specs.Legal.{IsGoingOn, IsPassing}
use Rattle.pgs_shard_history.specs.Scanning.{scanning}
use Rattle.pgs_shard.specs.Scans.{IsReadCall, IsScanLeft}
use Rattle.pgs_shard.specs.Steps.{IsReadNext, IsReadFor}
use Rattle.pgs_shard.proofs.Ties.{room_some}
use Rattle.pgs_shard.proofs.Steps.{read_last, reading_some, front_there, further_only, tied_unmoved, room_unmoved, tied_more, tied_whole, tied_half_read, further_call}
use Rattle.pgs_shard.proofs.shard.Shard.scan_read.Goals as goal

pub last-requires : goal.last-requires
last-requires g c =
    let next = subst (λ v. IsReadNext (scanning v.past)) (sym c.self.view_is) c.requires in
    read_last _ _ _ _ _ _ _ c.self.invariant.0 next

pub attrs-requires : goal.attrs-requires
attrs-requires g c =
    let next = subst (λ v. IsReadNext (scanning v.past)) (sym c.self.view_is) c.requires in
    reading_some _ _ _ _ _ _ _ c.self.invariant.0 next

pub read_on-requires-clause-front : goal.read_on-requires-clause-front
read_on-requires-clause-front g c =
    let next = subst (λ v. IsReadNext (scanning v.past)) (sym c.self.view_is) c.requires in
    front_there _ _ _ _ _ _ _ c.in_ok-id.id c.self.invariant.0 next c.in_ok-id.ensures

pub invariant_of-self-in_err-read_on : goal.invariant_of-self-in_err-read_on
invariant_of-self-in_err-read_on g c =
    let next = subst (λ v. IsReadNext (scanning v.past)) (sym c.self.view_is) c.requires in
    rw c.reserve.ensures.items
    (tied_unmoved _ _ _ _ _ _ _ _ _ _ c.in_ok-id.id _ c.self.invariant.0 next c.in_ok-id.ensures c.in_err-read_on.ensures, room_unmoved _ _ _ _ _ _ _ _ _ _ _ _ c.in_err-read_on.ensures c.self.invariant.1 c.reserve.ensures.len c.reserve.ensures.capacity)

pub returns-in_err-read_on-clause-device : goal.returns-in_err-read_on-clause-device
returns-in_err-read_on-clause-device g c =
    let e : c.from_residual-in_err-read_on.result ≡ Err c.in_err-read_on.field-0.0 = search rules in
    subst (λ r. IsScanLeft c.args.self.now.stride (scanning c.args.self.now.past) (g.M.Medium.device c.args.self.now.medium) r (g.M.Medium.device c.read_on.new.medium)) (sym e)
    (subst (λ v. IsOnlyRead (g.M.Medium.device v.medium) (g.M.Medium.device c.read_on.new.medium)) c.self.view_is (further_only c.self.inside.stride ((g.M.Medium.device c.self.inside.medium).stored c.in_ok-id.id.family c.in_ok-id.id.snap) (g.M.Medium.device c.self.inside.medium) (g.M.Medium.device c.read_on.new.medium) c.self.inside.scan c.read_on.new.self (Err c.in_err-read_on.field-0.0) c.in_err-read_on.ensures))

pub invariant_of-self-in-More-1 : goal.invariant_of-self-in-More-1
invariant_of-self-in-More-1 g c =
    let next = subst (λ v. IsReadNext (scanning v.past)) (sym c.self.view_is) c.requires in
    let is : c.in_ok-read_on.field-0 ≡ readings.More = search rules in
    let did = subst (λ a. IsReadFor c.self.inside.stride ((g.M.Medium.device c.self.inside.medium).stored c.in_ok-id.id.family c.in_ok-id.id.snap) (g.M.Medium.device c.self.inside.medium) c.self.inside.scan (Ok a) (g.M.Medium.device c.read_on.new.medium) c.read_on.new.self) is c.in_ok-read_on.ensures in
    rw (c.push_reserved.ensures.items, c.scanned.ensures, c.reserve.ensures.items, reverse-append) (
      tied_more _ _ _ _ _ _ _ _ _ _ c.in_ok-id.id c.self.invariant.0 next c.in_ok-id.ensures did,
      room_some _ _ _ (omega (arith, c.in_ok-reserve.ensures.ok, c.push_reserved.ensures.len, c.push_reserved.ensures.capacity, c.reserve.ensures.len)),
    )

pub returns-in-More-clause-answer : goal.returns-in-More-clause-answer
returns-in-More-clause-answer g c =
    let next = subst (λ v. IsReadNext (scanning v.past)) (sym c.self.view_is) c.requires in
    let is : c.in_ok-read_on.field-0 ≡ readings.More = search rules in
    let did = subst (λ a. IsReadFor c.self.inside.stride ((g.M.Medium.device c.self.inside.medium).stored c.in_ok-id.id.family c.in_ok-id.id.snap) (g.M.Medium.device c.self.inside.medium) c.self.inside.scan (Ok a) (g.M.Medium.device c.read_on.new.medium) c.read_on.new.self) is c.in_ok-read_on.ensures in
    subst (λ v. IsGoingOn v.stride (scanning v.past) (scanning v.past).copy) c.self.view_is (tied_more _ _ _ _ _ _ _ _ _ _ c.in_ok-id.id c.self.invariant.0 next c.in_ok-id.ensures did).legal.0

pub returns-in-More-clause-device : goal.returns-in-More-clause-device
returns-in-More-clause-device g c =
    let next = subst (λ v. IsReadNext (scanning v.past)) (sym c.self.view_is) c.requires in
    let is : c.in_ok-read_on.field-0 ≡ readings.More = search rules in
    let did = subst (λ a. IsReadFor c.self.inside.stride ((g.M.Medium.device c.self.inside.medium).stored c.in_ok-id.id.family c.in_ok-id.id.snap) (g.M.Medium.device c.self.inside.medium) c.self.inside.scan (Ok a) (g.M.Medium.device c.read_on.new.medium) c.read_on.new.self) is c.in_ok-read_on.ensures in
    subst (λ v. IsReadCall v.stride (scanning v.past).steps (scanning v.past).copy false (g.M.Medium.device v.medium) (g.M.Medium.device c.read_on.new.medium)) c.self.view_is
    (further_call _ _ _ _ _ _ _ _ _ _ c.in_ok-id.id readings.More false c.self.invariant.0 next c.in_ok-id.ensures did (λ copy before now h. h.0))

pub invariant_of-self-in-Whole-1 : goal.invariant_of-self-in-Whole-1
invariant_of-self-in-Whole-1 g c =
    let next = subst (λ v. IsReadNext (scanning v.past)) (sym c.self.view_is) c.requires in
    let is : c.in_ok-read_on.field-0 ≡ readings.Whole = search rules in
    let did = subst (λ a. IsReadFor c.self.inside.stride ((g.M.Medium.device c.self.inside.medium).stored c.in_ok-id.id.family c.in_ok-id.id.snap) (g.M.Medium.device c.self.inside.medium) c.self.inside.scan (Ok a) (g.M.Medium.device c.read_on.new.medium) c.read_on.new.self) is c.in_ok-read_on.ensures in
    let kept : c.in_ok-kept.kept ≡ c.in_ok-id.id = search rules in
    rw (c.push_reserved-in-Whole.ensures.items, c.passed.ensures, c.reserve.ensures.items, reverse-append, kept) (
      tied_whole _ _ _ _ _ _ _ _ c.read_on.new.self _ _ c.in_ok-id.id c.in_ok-attrs.attrs c.deep_entry-entry.result c.self.invariant.0 next c.in_ok-id.ensures did c.in_ok-attrs.ensures c.deep_entry-entry.ensures c.pass.ensures,
      room_some _ _ _ (omega (arith, c.in_ok-reserve.ensures.ok, c.push_reserved-in-Whole.ensures.len, c.push_reserved-in-Whole.ensures.capacity, c.reserve.ensures.len)),
    )

pub returns-in-Whole-clause-answer : goal.returns-in-Whole-clause-answer
returns-in-Whole-clause-answer g c =
    let next = subst (λ v. IsReadNext (scanning v.past)) (sym c.self.view_is) c.requires in
    let is : c.in_ok-read_on.field-0 ≡ readings.Whole = search rules in
    let did = subst (λ a. IsReadFor c.self.inside.stride ((g.M.Medium.device c.self.inside.medium).stored c.in_ok-id.id.family c.in_ok-id.id.snap) (g.M.Medium.device c.self.inside.medium) c.self.inside.scan (Ok a) (g.M.Medium.device c.read_on.new.medium) c.read_on.new.self) is c.in_ok-read_on.ensures in
    let told : c.in_ok-told.told ≡ c.in_ok-id.id = search rules in
    subst (λ o. IsPassing c.args.self.now.stride (scanning c.args.self.now.past) (scanning c.args.self.now.past).copy o marks.Fine) (sym told)
    (subst (λ v. IsPassing v.stride (scanning v.past) (scanning v.past).copy c.in_ok-id.id marks.Fine) c.self.view_is
    (tied_whole _ _ _ _ _ _ _ _ c.read_on.new.self _ _ c.in_ok-id.id c.in_ok-attrs.attrs c.deep_entry-entry.result c.self.invariant.0 next c.in_ok-id.ensures did c.in_ok-attrs.ensures c.deep_entry-entry.ensures c.pass.ensures).legal.0)

pub returns-in-Whole-clause-device : goal.returns-in-Whole-clause-device
returns-in-Whole-clause-device g c =
    let next = subst (λ v. IsReadNext (scanning v.past)) (sym c.self.view_is) c.requires in
    let is : c.in_ok-read_on.field-0 ≡ readings.Whole = search rules in
    let did = subst (λ a. IsReadFor c.self.inside.stride ((g.M.Medium.device c.self.inside.medium).stored c.in_ok-id.id.family c.in_ok-id.id.snap) (g.M.Medium.device c.self.inside.medium) c.self.inside.scan (Ok a) (g.M.Medium.device c.read_on.new.medium) c.read_on.new.self) is c.in_ok-read_on.ensures in
    subst (λ v. IsReadCall v.stride (scanning v.past).steps (scanning v.past).copy false (g.M.Medium.device v.medium) (g.M.Medium.device c.read_on.new.medium)) c.self.view_is
    (further_call _ _ _ _ _ _ _ _ _ _ c.in_ok-id.id readings.Whole false c.self.invariant.0 next c.in_ok-id.ensures did (λ copy before now h. h.0))

pub invariant_of-self-in-Failed-1 : goal.invariant_of-self-in-Failed-1
invariant_of-self-in-Failed-1 g c =
    let next = subst (λ v. IsReadNext (scanning v.past)) (sym c.self.view_is) c.requires in
    let is : c.in_ok-read_on.field-0 ≡ readings.Failed = search rules in
    let did = subst (λ a. IsReadFor c.self.inside.stride ((g.M.Medium.device c.self.inside.medium).stored c.in_ok-id.id.family c.in_ok-id.id.snap) (g.M.Medium.device c.self.inside.medium) c.self.inside.scan (Ok a) (g.M.Medium.device c.read_on.new.medium) c.read_on.new.self) is c.in_ok-read_on.ensures in
    let kept : c.in_ok-kept.kept ≡ c.in_ok-id.id = search rules in
    rw (c.push_reserved-in-Failed.ensures.items, c.passed-in-Failed.ensures, c.reserve.ensures.items, reverse-append, kept) (
      tied_half_read _ _ _ _ _ _ _ _ c.read_on.new.self _ _ c.in_ok-id.id c.in_ok-attrs.attrs c.half_read_entry-entry.result c.self.invariant.0 next c.in_ok-id.ensures did c.in_ok-attrs.ensures c.half_read_entry-entry.ensures c.pass-in-Failed.ensures,
      room_some _ _ _ (omega (arith, c.in_ok-reserve.ensures.ok, c.push_reserved-in-Failed.ensures.len, c.push_reserved-in-Failed.ensures.capacity, c.reserve.ensures.len)),
    )

pub returns-in-Failed-clause-answer : goal.returns-in-Failed-clause-answer
returns-in-Failed-clause-answer g c =
    let next = subst (λ v. IsReadNext (scanning v.past)) (sym c.self.view_is) c.requires in
    let is : c.in_ok-read_on.field-0 ≡ readings.Failed = search rules in
    let did = subst (λ a. IsReadFor c.self.inside.stride ((g.M.Medium.device c.self.inside.medium).stored c.in_ok-id.id.family c.in_ok-id.id.snap) (g.M.Medium.device c.self.inside.medium) c.self.inside.scan (Ok a) (g.M.Medium.device c.read_on.new.medium) c.read_on.new.self) is c.in_ok-read_on.ensures in
    let told : c.in_ok-told.told ≡ c.in_ok-id.id = search rules in
    subst (λ o. IsPassing c.args.self.now.stride (scanning c.args.self.now.past) (scanning c.args.self.now.past).copy o marks.ReadError) (sym told)
    (subst (λ v. IsPassing v.stride (scanning v.past) (scanning v.past).copy c.in_ok-id.id marks.ReadError) c.self.view_is
    (tied_half_read _ _ _ _ _ _ _ _ c.read_on.new.self _ _ c.in_ok-id.id c.in_ok-attrs.attrs c.half_read_entry-entry.result c.self.invariant.0 next c.in_ok-id.ensures did c.in_ok-attrs.ensures c.half_read_entry-entry.ensures c.pass-in-Failed.ensures).legal.0)

pub returns-in-Failed-clause-device : goal.returns-in-Failed-clause-device
returns-in-Failed-clause-device g c =
    let next = subst (λ v. IsReadNext (scanning v.past)) (sym c.self.view_is) c.requires in
    let is : c.in_ok-read_on.field-0 ≡ readings.Failed = search rules in
    let did = subst (λ a. IsReadFor c.self.inside.stride ((g.M.Medium.device c.self.inside.medium).stored c.in_ok-id.id.family c.in_ok-id.id.snap) (g.M.Medium.device c.self.inside.medium) c.self.inside.scan (Ok a) (g.M.Medium.device c.read_on.new.medium) c.read_on.new.self) is c.in_ok-read_on.ensures in
    subst (λ v. IsReadCall v.stride (scanning v.past).steps (scanning v.past).copy true (g.M.Medium.device v.medium) (g.M.Medium.device c.read_on.new.medium)) c.self.view_is
    (further_call _ _ _ _ _ _ _ _ _ _ c.in_ok-id.id readings.Failed true c.self.invariant.0 next c.in_ok-id.ensures did (λ copy before now h. h.0))
