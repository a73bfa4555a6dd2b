use Rattle.std.proofs.Common.{◌-◌, length}
use Rattle.kernel.proofs.apart.+body_apart.Given as goal

abbrev pub decreases-body_apart : goal.decreases-body_apart
decreases-body_apart l = length l.some.now - l.k
