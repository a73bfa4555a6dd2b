use Rattle.std.proofs.Common.{length}
use Rattle.kernel.proofs.block.+keep_last.Given as goal

abbrev pub decreases-keep_last : goal.decreases-keep_last
decreases-keep_last l = length l.lanes.now
