use Rattle.pgs_scan.proofs.Fronts.{front_begun}
use Rattle.pgs_scan.proofs.tests.begin.Goals as goal

pub returns : goal.returns
returns g c =
    front_begun (g.M.Medium.device c.args.device.now) (g.M.Medium.device c.begin.new.medium) c.args.id.now.family c.args.id.now.snap c.begin.result c.begin.ensures
