use Rattle.std.proofs.Common.{sym, ◌∙◌}
use Rattle.kernel.specs.Offsets.{here_in}
use Rattle.kernel.proofs.Sums.{is_sum}
use Rattle.kernel.proofs.apart.are_apart_but.Goals as goal

pub returns : goal.returns
returns c = λ last.
    is_sum (here_in c.args.body.now c.args.at.now) c.args.body.now c.args.front.now c.args.sum c.requires
    (sym c.is_assigned.ensures ∙ c.if-is_assigned.false) (c.are_settled.ensures c.if-not-are_settled.false) (c.body_apart.ensures c.if-not-body_apart.false)
    (sym c.expr_apart.ensures ∙ last)
