use Rattle.std.proofs.Common.{◌-◌, ◌≤◌, length}
use Rattle.order.specs.Clashes.{NoClashBelow}
use Rattle.order.proofs.apart.clear_items.Given as goal

abbrev pub invariant-loop-clear : goal.invariant-loop-clear
invariant-loop-clear l = record {
  none : NoClashBelow l.items l.clear;
  inside : l.clear ≤ length l.items;
  end : l.unclear ≤ length l.items;
}

abbrev pub decreases-loop-clear : goal.decreases-loop-clear
decreases-loop-clear l = l.unclear - l.clear
