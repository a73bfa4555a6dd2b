use Rattle.std.proofs.Common.{arith}
use Rattle.order.proofs.Behind.{first_none}
use Rattle.order.proofs.apart.clear_items.Goals as goal

pub loop-clear-preserved-then-branch-2 : goal.loop-clear-preserved-then-branch-2
loop-clear-preserved-then-branch-2 c = record {
  none = first_none c.args.items.now _ (c.in_ok-is_clear-2.ensures c.if-branch-2.true);
  inside = omega (arith, c.loop-clear.invariant.end, c.loop-clear-test.true);
  end = c.loop-clear.invariant.end;
}
