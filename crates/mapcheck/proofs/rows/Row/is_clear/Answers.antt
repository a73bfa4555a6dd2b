use Rattle.std.proofs.Common.{Some, sym, subst}
use Rattle.base.specs.Items.{plan}
use Rattle.mapcheck.specs.Rows.{IsClearAt}
use Rattle.mapcheck.proofs.RowItems.{clear_read, clear_write}
use Rattle.mapcheck.proofs.rows.Row.is_clear.Goals as goal

pub returns-then-not-writes : goal.returns-then-not-writes
returns-then-not-writes c =
    let p = plan c.args.order.now in
    λ e place here. subst (λ w. IsClearAt p (Some c.args.self.now) c.args.item w place) (sym c.if-not-writes.true)
    (clear_read p c.args.self.now c.args.item place
    (λ m h ne. c.are_before.ensures c.if-are_before.true place m here h ne))

pub returns-else-not-writes : goal.returns-else-not-writes
returns-else-not-writes c =
    let p = plan c.args.order.now in
    λ e place here. subst (λ w. IsClearAt p (Some c.args.self.now) c.args.item w place) (sym c.if-not-writes.false)
    (clear_write p c.args.self.now c.args.item place
    (λ m h ne. c.are_before.ensures c.if-are_before.true place m here h ne)
    (λ m h ne. c.are_before-else-not-writes.ensures e place m here h ne))
