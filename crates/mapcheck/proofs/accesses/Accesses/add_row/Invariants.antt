use Rattle.std.proofs.Common.{take}
use Rattle.mapcheck.specs.Building.{ExtendsBy, row_actions}
use Rattle.mapcheck.proofs.accesses.Accesses.add_row.Given as goal

abbrev pub invariant-maps : goal.invariant-maps
invariant-maps l = ExtendsBy (row_actions l.part (take l.i l.maps) (take l.i l.row)) l.fn.self l.self
