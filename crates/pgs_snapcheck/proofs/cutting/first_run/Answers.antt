use Rattle.pgs_snapcheck.proofs.Cuts.{run_cut}
use Rattle.pgs_snapcheck.proofs.cutting.first_run.Goals as goal

pub returns-in-Some : goal.returns-in-Some
returns-in-Some c =
    run_cut c.args.views.now c.split_at.result.0.now c.split_at.result.1.now c.in-Some.first.now c.in-Some.field-0-1.now c.length_of_run.result c.requires
    c.in-Some.ensures.cases.0 c.length_of_run.ensures c.split_at.ensures.front c.split_at.ensures.back
