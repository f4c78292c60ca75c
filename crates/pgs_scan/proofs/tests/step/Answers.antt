use Rattle.pgs_scan.proofs.Fronts.{front_kept}
use Rattle.pgs_scan.proofs.tests.step.Goals as goal

pub returns : goal.returns
returns g c =
    front_kept 4 (g.M.Medium.device c.args.device.now) (g.M.Medium.device c.read_on.new.medium) c.args.id.now.family c.args.id.now.snap c.args.reading.now c.read_on.new.self
    c.read_on.result c.requires c.read_on.ensures
