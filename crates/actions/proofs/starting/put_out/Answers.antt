use Rattle.actions.proofs.Puts.{puts_out}
use Rattle.actions.proofs.starting.put_out.Goals as goal

pub returns-in_ok-push : goal.returns-in_ok-push
returns-in_ok-push c =
    puts_out c.args.copies c.cells_of.result c.args.section.now _ _ c.if-copies.true c.cells_of.ensures.array
    c.cells_of.ensures.first c.cells_of.ensures.count c.in_ok-push.ensures.pushed
