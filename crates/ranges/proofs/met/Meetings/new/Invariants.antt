use Rattle.std.proofs.Common.{◌≡◌, ◌≤◌, ◌-◌, ℕ, false, length}
use Rattle.base.specs.declared.item.Cell.{Cell}
use Rattle.ranges.specs.Ways.{touched_in}
use Rattle.ranges.proofs.met.Meetings.new.Given as goal

abbrev pub invariant-sets : goal.invariant-sets
invariant-sets l = record {
  few : length l.touched.items ≤ 9;
  empty : (k : ℕ) (c : Cell) → touched_in l.touched.items k c ≡ false;
}

abbrev pub decreases-sets : goal.decreases-sets
decreases-sets l = 9 - length l.touched.items
