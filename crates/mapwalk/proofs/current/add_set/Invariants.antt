use Rattle.std.proofs.Common.{◌≡◌}
use Rattle.base.specs.declared.item.Cell.{Cell}
use Rattle.ranges.specs.Cells.{has}
use Rattle.mapwalk.specs.Current.{marks_in, row_lengths, with_added}
use Rattle.mapwalk.proofs.SideRows.{up_to}
use Rattle.mapwalk.proofs.current.add_set.Given as goal

abbrev pub invariant-arrays : goal.invariant-arrays
invariant-arrays l = record {
  lengths : row_lengths l.side ≡ row_lengths l.fn.side;
  marks : (c : Cell) → marks_in l.side c ≡ up_to l.array (with_added (has l.cells)) (marks_in l.fn.side) c;
}
