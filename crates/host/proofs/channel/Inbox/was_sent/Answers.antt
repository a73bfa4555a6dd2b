use Rattle.std.proofs.Common.{◌∙◌, ap, sym, subst}
use Rattle.crossbeam_channel.specs.Claims.{view}
use Rattle.host.specs.Once.{AreAmong}
use Rattle.host.specs.declared.channel.Known.{Known}
use Rattle.host.proofs.Showing.{learns, leaves, shows}
use Rattle.host.proofs.channel.Inbox.was_sent.Goals as goal

pub absorb-requires-clause-channel : goal.absorb-requires-clause-channel
absorb-requires-clause-channel g c =
    let o = c.outbox.invariant in
    let s = c.self.invariant in (
      o.0,
      (
        s.2 ∙ sym o.2 ∙ o.0.0,
        g.T.Numbered.one c.self.inside.pass.me.0.of c.outbox.inside.pass.me.0.of (s.3 ∙ sym o.3) ∙ o.0.1,
        s.0.2,
        o.0.3,
      ),
    )

pub absorb-requires-clause-rule : goal.absorb-requires-clause-rule
absorb-requires-clause-rule g c = shows g.T.Numbered.number _ _ _ _ c.outbox.invariant.1

pub learn_as-requires-clause-rule : goal.learn_as-requires-clause-rule
learn_as-requires-clause-rule g c =
    learns g.T.Numbered.number _ _
    (ap (λ (k : Known g.row.T.Denot). k.sends) c.absorb.ensures.rule
    ∙ ap (λ (k : Known g.row.T.Denot). k.sends) c.outbox.invariant.1)

pub another-pass-requires-clause-rule : goal.another-pass-requires-clause-rule
another-pass-requires-clause-rule g c =
    leaves g.T.Numbered.number _ _
    (ap (λ (k : Known g.row.T.Denot). k.sends) (c.learn_as.ensures.channel.2 ∙ c.absorb.ensures.rule)
    ∙ ap (λ (k : Known g.row.T.Denot). k.sends) c.outbox.invariant.1)

pub returns-clause-sent : goal.returns-clause-sent
returns-clause-sent g c =
    let got = ap (λ (k : Known g.row.T.Denot). k.got) c.absorb.ensures.rule ∙ c.self.view_is in
    let sent = ap (λ (k : Known g.row.T.Denot). k.sent) c.absorb.ensures.rule ∙ c.outbox.view_is in
    subst (λ xs. AreAmong xs c.args.outbox.now) got
    (subst (λ ys. AreAmong (view c.absorb.new.pass).got ys) sent c.learn_as.ensures.rule.1)
