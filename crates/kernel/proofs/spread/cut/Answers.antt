use Rattle.std.proofs.lemmas.Option.{IfSome_then}
use Rattle.kernel.proofs.Spreads.{may_back, may_front}
use Rattle.kernel.proofs.spread.cut.Goals as goal

pub returns-clause-front : goal.returns-clause-front
returns-clause-front c =
    let o = c.args.of.now in
    IfSome_then c.halves.result c.halves.ensures
    (λ p cut. may_front o.region.now o.frame.now o.bounds o.body.now o.is_spread c.spans_are_the_loop.ensures o.inner
    c.args.bounds p.0 p.1 c.requires cut)

pub returns-clause-back : goal.returns-clause-back
returns-clause-back c =
    let o = c.args.of.now in
    IfSome_then c.halves.result c.halves.ensures
    (λ p cut. may_back o.region.now o.frame.now o.bounds o.body.now o.is_spread c.spans_are_the_loop.ensures o.inner
    c.args.bounds p.0 p.1 c.requires cut)
