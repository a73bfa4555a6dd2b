use Rattle.host.proofs.Sending.{begins}
use Rattle.host.proofs.channel.new_ends.Goals as goal

pub bounded_with-requires-clause-rule : goal.bounded_with-requires-clause-rule
bounded_with-requires-clause-rule g c = begins g.T.Numbered.number
