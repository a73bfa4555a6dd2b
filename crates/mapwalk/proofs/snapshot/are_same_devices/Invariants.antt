use Rattle.std.proofs.Common.{◌≡◌, map, take}
use Rattle.mapwalk.specs.Heads.{device_parts, shot_parts}
use Rattle.mapwalk.proofs.snapshot.are_same_devices.Given as goal

abbrev pub invariant-devices : goal.invariant-devices
invariant-devices l = map shot_parts (take l.i l.kept) ≡ map device_parts (take l.i l.devices)
