use Rattle.std.proofs.Common.{◌≡◌, take}
use Rattle.mapwalk.specs.Current.{row_lengths}
use Rattle.mapwalk.proofs.SideRows.{AllAre}
use Rattle.mapwalk.proofs.current.side_of.Given as goal

abbrev pub invariant-arrays : goal.invariant-arrays
invariant-arrays l = record {
  lengths : row_lengths l.side.items ≡ take l.length-index l.lengths;
  marks : AllAre l.mark l.side.items;
}
