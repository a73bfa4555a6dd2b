use Rattle.std.proofs.Common.{◌≡◌, ◌<◌, false}
use Rattle.std.specs.Prelude.{◌&&◌, not}
use Rattle.base.specs.declared.item.Cell.{Cell}
use Rattle.ranges.specs.Cells.{has}
use Rattle.mapwalk.specs.Current.{marks_in}
use Rattle.mapwalk.proofs.causes.least_stale.Given as goal

abbrev pub invariant-arrays : goal.invariant-arrays
invariant-arrays l = (c : Cell) → c.array.0 < l.a → (has l.exposed c && not (marks_in l.side c)) ≡ false
