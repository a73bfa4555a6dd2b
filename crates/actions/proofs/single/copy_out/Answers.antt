use Rattle.std.proofs.Common.{sym, ◌∙◌}
use Rattle.actions.proofs.SingleActs.{copies_out}
use Rattle.actions.proofs.single.copy_out.Goals as goal

pub returns-in-Some-clause-done : goal.returns-in-Some-clause-done
returns-in-Some-clause-done c =
    copies_out c.args.host.now c.set_number.new.host c.args.cell c.in-Some.number c.args.table.now
    c.set_number.ensures.set c.gives.result c.gives.ensures (sym c.load.ensures ∙ c.in-Some.is)
