use Rattle.std.proofs.Common.{◌≡◌, length}
use Rattle.ranges.specs.Cells.{has}
use Rattle.mapwalk.proofs.Spoiling.{AreSpoilt}
use Rattle.mapwalk.proofs.state.spoil_others.Given as goal

abbrev pub invariant-devices : goal.invariant-devices
invariant-devices l = record {
  count : length l.devices ≡ length l.fn.devices;
  spoilt : AreSpoilt l.own l.other (has l.cells) l.fn.devices l.devices;
}
