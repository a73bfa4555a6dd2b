use Rattle.std.proofs.Common.{◌-◌}
use Rattle.kernel.proofs.BlockTurns.{Carries}
use Rattle.kernel.proofs.block.blocks.Given as goal

abbrev pub invariant-turns : goal.invariant-turns
invariant-turns l = Carries l.body l.outer l.bounds.first l.bounds.end l.v l.fn.scalars l.fn.rows l.scalars l.rows

abbrev pub decreases-turns : goal.decreases-turns
decreases-turns l = l.bounds.end - l.v
