use Rattle.std.proofs.Common.{length}
use Rattle.kernel.proofs.values.+scalar.Given as goal

abbrev pub decreases-scalar : goal.decreases-scalar
decreases-scalar l = length l.lanes.now
