use Rattle.std.proofs.Common.{◌≡◌, length, subst, arith}
use Rattle.graph.proofs.Fitting.{FitBelow, all_fit}
use Rattle.graph.proofs.ordered.do_sections_fit.Goals as goal

pub returns : goal.returns
returns c =
    let items = c.items-item-items.result.now in
    let end : c.items.item-index ≡ length items = omega (arith, c.items-test.false, c.items.auto.item-index-end) in
    λ yes. all_fit c.args.outlined.now items c.items-item-items.ensures.shown
    (subst (FitBelow c.args.outlined.now items) end c.items.invariant)
