use Rattle.std.proofs.Common.{take}
use Rattle.device.specs.Blank.{HaveRoomOf}
use Rattle.device.proofs.blank.blank_rows.Given as goal

abbrev pub invariant-each : goal.invariant-each
invariant-each l = HaveRoomOf (take l.row-index l.rows) l.blank.items
