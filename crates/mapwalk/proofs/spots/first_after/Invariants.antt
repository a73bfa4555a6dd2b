use Rattle.std.proofs.Common.{◌-◌, ◌≤◌, length}
use Rattle.mapwalk.specs.Spots.{AllAfter, AllBefore}
use Rattle.mapwalk.proofs.spots.first_after.Given as goal

abbrev pub invariant-loop-low : goal.invariant-loop-low
invariant-loop-low l = record {
  order : l.low ≤ l.high;
  bound : l.high ≤ length l.spots;
  before : AllBefore l.spots l.low l.place;
  after : AllAfter l.spots l.high l.place;
}

abbrev pub decreases-loop-low : goal.decreases-loop-low
decreases-loop-low l = l.high - l.low
