use Rattle.std.proofs.Common.{◌≡◌, length}
use Rattle.order.specs.Bare.{plan_of}
use Rattle.order.specs.Rows.{AreRowsFrom, IsNextWait}
use Rattle.std.specs.Prelude.{IfSome}
use Rattle.order.specs.Touches.{HasTouches}
use Rattle.order.proofs.rows.rows_of.Given as goal

abbrev pub invariant-loop-item : goal.invariant-loop-item
invariant-loop-item l = record {
  touches : IfSome l.touches (HasTouches l.items);
  many : length l.rows.items ≡ length l.items;
  wait : IsNextWait (plan_of l.items) l.item l.wait;
  rows : AreRowsFrom (plan_of l.items) l.item l.rows.items;
}
