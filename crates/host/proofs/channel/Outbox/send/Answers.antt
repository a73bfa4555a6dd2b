use Rattle.std.proofs.Common.{◌≡◌, map, sym, subst}
use Rattle.host.specs.Once.{times}
use Rattle.host.proofs.Sending.{sends}
use Rattle.host.proofs.channel.Outbox.send.Goals as goal

pub try_send_as-requires-clause-rule : goal.try_send_as-requires-clause-rule
try_send_as-requires-clause-rule g c = (
  sends g.T.Numbered.number _ _ _ c.args.item c.self.invariant.1
      (subst (λ ns. times (g.T.Numbered.number c.args.item) (map g.T.Numbered.number ns) ≡ 0) (sym c.self.view_is) c.requires),
  λ items views h at. tt,
)
