use Rattle.kernel.specs.Offsets.{here_in}
use Rattle.kernel.proofs.Looseness.{is_apart}
use Rattle.kernel.proofs.apart.are_apart.Goals as goal

pub returns : goal.returns
returns c = λ e.
    is_apart (here_in c.args.body.now c.args.at.now) c.args.body.now (c.are_settled.ensures c.if-not-are_settled.false)
    (c.body_apart.ensures e)
