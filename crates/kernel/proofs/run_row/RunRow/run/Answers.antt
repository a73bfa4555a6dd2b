use Rattle.std.proofs.Common.{arith}
use Rattle.kernel.proofs.OwnCells.{lent_run, own_fits}
use Rattle.kernel.proofs.run_row.RunRow.run.Goals as goal

pub returns-then-at-len : goal.returns-then-at-len
returns-then-at-len c =
    let row = c.self.inside in
    lent_run row.first row.lent.now row.own.items _ c.args.self.now c.args.at c.args.n c.self.view_is
    (own_fits row.lent.now row.own.items row.stored c.self.invariant) (omega (arith, c.len.ensures, c.if-at-len.true))
    (omega (arith, c.if-at-self.false, c.if-n-self.false))
