use Rattle.ranges.proofs.SlidingTurns.{tight_turns}
use Rattle.ranges.proofs.sliding.tight.Goals as goal

pub returns-clause-turns : goal.returns-clause-turns
returns-clause-turns c = tight_turns c.args.bounds c.requires
