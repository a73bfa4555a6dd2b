use Rattle.host.proofs.Sending.{forks}
use Rattle.host.proofs.channel.each_once.Goals as goal

pub another-own-requires-clause-rule : goal.another-own-requires-clause-rule
another-own-requires-clause-rule g c = forks g.T.Numbered.number _ _
