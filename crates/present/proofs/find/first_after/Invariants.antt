use Rattle.std.proofs.Common.{◌-◌, ◌≤◌, length}
use Rattle.present.specs.Found.{AllBefore, AllAfter}
use Rattle.present.proofs.find.first_after.Given as goal

abbrev pub invariant-loop-low : goal.invariant-loop-low
invariant-loop-low l = record {
  order : l.low ≤ l.high;
  bound : l.high ≤ length l.blocks;
  before : AllBefore l.blocks l.low l.place;
  after : AllAfter l.blocks l.high l.place;
}

abbrev pub decreases-loop-low : goal.decreases-loop-low
decreases-loop-low l = l.high - l.low
