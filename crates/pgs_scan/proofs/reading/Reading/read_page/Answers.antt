use Rattle.std.proofs.Common.{◌≡◌, ap, subst}
use Rattle.pgs_medium.specs.Reads.{page_of}
use Rattle.pgs_medium.specs.declared.call_kind.CallKind.TheVariants as kinds
use Rattle.pgs_scan.specs.Asked.{IsAnswer, last_key}
use Rattle.pgs_scan.proofs.Taking.{page_ready}
use Rattle.pgs_scan.proofs.reading.Reading.read_page.Goals as goal

pub take_page-requires : goal.take_page-requires
take_page-requires g c =
    let stored = (g.M.Medium.device c.args.medium.now).stored c.args.id.now.family c.args.id.now.snap in
    let same : c.self.inside.copy.omap ≡ c.args.self.now.copy.omap = ap (λ r. r.copy.omap) c.self.view_is in
    let told = subst (λ o. IsAnswer kinds.Omap (page_of (last_key o) stored) (g.M.Medium.device c.args.medium.now) c.in_ok-page.page (g.M.Medium.device c.page_behind.new.medium))
    same c.in_ok-page.ensures.page in
    page_ready stored (g.M.Medium.device c.args.medium.now) (g.M.Medium.device c.page_behind.new.medium) c.args.self.now c.in_ok-page.page c.requires.front told c.in_ok-page.ensures.in_order
