use Rattle.std.proofs.Common.{sym, ◌∙◌}
use Rattle.actions.proofs.SingleActs.{stores_on_host}
use Rattle.actions.proofs.single.store.Goals as goal

pub returns-clause-done : goal.returns-clause-done
returns-clause-done c =
    stores_on_host c.args.host.now c.set_number.new.host c.args.cell c.args.number c.args.table.now
    c.set_number.ensures.set c.gives-2.result c.gives-2.ensures c.args.on_host c.if-not-on_host.false
    (sym c.has_cell.ensures ∙ c.if-not-has_cell.false)
