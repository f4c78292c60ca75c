use Rattle.std.proofs.Common.{rules, ◌≡◌, ◌<◌, true, false, [], ◌∷◌, ◌++◌, length, reverse, Some, None, Err, sym, subst}
use Rattle.pgs_medium.specs.Device.{IsAnswered}
use Rattle.pgs_medium.specs.declared.medium_error.MediumError.TheVariants.{Memory}
use Rattle.pgs_chunk.specs.Positions.{Ascends}
use Rattle.pgs_chunk.specs.Listings.{is_full, listing}
use Rattle.pgs_shard_history.specs.Positions.{positions}
use Rattle.pgs_range.specs.declared.bound.Bound.TheVariants.{Max}
use Rattle.pgs_range.specs.declared.cursor.Cursor.TheVariants.{After}
use Rattle.pgs_shard.specs.Listed.{IsListedOn}
use Rattle.pgs_shard.proofs.Listings.{ahead, ascends, goes_on, fewer, stops, ends, out_of_memory_later}
use Rattle.pgs_shard.proofs.listing.list_on.Goals as goal

pub is_full-requires : goal.is_full-requires
is_full-requires g c = record { ascends = subst Ascends (sym c.as_slice.ensures) (ascends _ _ _ _ _ _ _ c.loop-medium.invariant) }

pub returns-in_default-clause-listed : goal.returns-in_default-clause-listed
returns-in_default-clause-listed g c =
    let none : c.in_ok-id.field-0 ≡ None = search rules in
    ends _ _ _ _ _ _ _ _ c.loop-medium.invariant (subst (λ a. IsAnswered c.loop-medium.cursor Max (g.M.Medium.device c.loop-medium.medium) a (g.M.Medium.device c.next.new.self)) none c.in_ok-id.ensures)

pub returns-in_err-last-clause-device : goal.returns-in_err-last-clause-device
returns-in_err-last-clause-device g c =
    let some : c.in_ok-id.field-0 ≡ Some c.in-Some.id = search rules in
    let e : c.from_residual-in_err-last.result ≡ Err Memory = search rules in
    subst (λ r. IsListedOn c.args.limit (listing c.args.limit c.args.start.now (positions (reverse c.args.events.now))) (g.M.Medium.device c.args.medium.now) r (g.M.Medium.device c.next.new.self)) (sym e)
    (out_of_memory_later _ _ _ _ _ _ _ _ _ c.loop-medium.invariant (subst (λ a. IsAnswered c.loop-medium.cursor Max (g.M.Medium.device c.loop-medium.medium) a (g.M.Medium.device c.next.new.self)) some c.in_ok-id.ensures))

pub returns-in_err-push-clause-device : goal.returns-in_err-push-clause-device
returns-in_err-push-clause-device g c =
    let some : c.in_ok-id.field-0 ≡ Some c.in-Some.id = search rules in
    let e : c.from_residual-in_err-push.result ≡ Err Memory = search rules in
    subst (λ r. IsListedOn c.args.limit (listing c.args.limit c.args.start.now (positions (reverse c.args.events.now))) (g.M.Medium.device c.args.medium.now) r (g.M.Medium.device c.next.new.self)) (sym e)
    (out_of_memory_later _ _ _ _ _ _ _ _ _ c.loop-medium.invariant (subst (λ a. IsAnswered c.loop-medium.cursor Max (g.M.Medium.device c.loop-medium.medium) a (g.M.Medium.device c.next.new.self)) some c.in_ok-id.ensures))

pub loop-medium-smaller : goal.loop-medium-smaller
loop-medium-smaller g c =
    let some : c.in_ok-id.field-0 ≡ Some c.in-Some.id = search rules in
    let last : c.in_ok-last.last ≡ c.in-Some.id = search rules in
    subst (λ x. length (ahead (reverse c.args.events.now) (After x)) < length (ahead (reverse c.args.events.now) c.loop-medium.cursor)) (sym last)
    (fewer _ _ _ _ _ _ _ _ _ c.loop-medium.invariant (subst (λ a. IsAnswered c.loop-medium.cursor Max (g.M.Medium.device c.loop-medium.medium) a (g.M.Medium.device c.next.new.self)) some c.in_ok-id.ensures))

pub loop-medium-preserved : goal.loop-medium-preserved
loop-medium-preserved g c =
    let some : c.in_ok-id.field-0 ≡ Some c.in-Some.id = search rules in
    let last : c.in_ok-last.last ≡ c.in-Some.id = search rules in
    let pushed : c.push.new.self ≡ c.loop-medium.listed ++ c.in-Some.id ∷ [] = search rules in
    let more : false ≡ is_full c.args.limit c.loop-medium.listed = search rules in
    rw (pushed, last)
    (goes_on _ _ _ _ _ _ _ _ _ c.loop-medium.invariant more (subst (λ a. IsAnswered c.loop-medium.cursor Max (g.M.Medium.device c.loop-medium.medium) a (g.M.Medium.device c.next.new.self)) some c.in_ok-id.ensures))

pub returns-clause-listed : goal.returns-clause-listed
returns-clause-listed g c =
    let full : true ≡ is_full c.args.limit c.loop-medium.listed = search rules in
    stops _ _ _ _ _ _ _ c.loop-medium.invariant full
