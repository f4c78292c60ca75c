use Rattle.std.proofs.Common.{◌≡◌, ◌≤◌, ◌∙◌, length, sym, subst}
use Rattle.pgs_medium.specs.Reads.{PAGE_PAIRS}
use Rattle.pgs_medium.proofs.Pages.{page_full, page_last}
use Rattle.pgs_medium.proofs.paging.page_from.Goals as goal

pub returns-then-len-ge-PAGE_PAIRS : goal.returns-then-len-ge-PAGE_PAIRS
returns-then-len-ge-PAGE_PAIRS c =
    let many : PAGE_PAIRS ≤ length c.loop-key.pairs = subst (λ n. PAGE_PAIRS ≤ n) c.len.ensures c.if-len-ge-PAGE_PAIRS.true in
    page_full c.args.header c.loop-key.header c.loop-key.pairs c.loop-key.key-iterator c.next.new.self _ _ c.loop-key.invariant.2 c.in-Some.ensures.steps many
    c.loop-key.invariant.3 c.loop-key.invariant.4

pub returns : goal.returns
returns c =
    page_last c.args.header c.loop-key.header c.loop-key.pairs c.loop-key.key-iterator _ c.loop-key.invariant.2 c.in-None.ensures.steps.0 c.loop-key.invariant.3
    c.loop-key.invariant.4
