use Rattle.host.proofs.Sending.{receives}
use Rattle.host.proofs.channel.Inbox.receive.Goals as goal

pub try_recv_as-requires-clause-rule : goal.try_recv_as-requires-clause-rule
try_recv_as-requires-clause-rule g c = (receives g.T.Numbered.number _ _ c.self.invariant.1, λ items views h at. tt)
