use Rattle.std.proofs.Common.{length}
use Rattle.kernel.proofs.apart.+is_certain.Given as goal

abbrev pub decreases-is_certain : goal.decreases-is_certain
decreases-is_certain l = length l.all.now
