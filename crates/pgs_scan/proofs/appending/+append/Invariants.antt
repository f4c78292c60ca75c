use Rattle.std.proofs.Common.{length}
use Rattle.pgs_scan.proofs.appending.+append.Given as goal

abbrev pub decreases-append : goal.decreases-append
decreases-append l = length l.pairs.now
