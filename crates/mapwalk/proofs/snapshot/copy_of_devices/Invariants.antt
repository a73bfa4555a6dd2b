use Rattle.std.proofs.Common.{◌≡◌, map, take}
use Rattle.mapwalk.specs.Heads.{device_parts, shot_parts}
use Rattle.mapwalk.proofs.snapshot.copy_of_devices.Given as goal

abbrev pub invariant-devices : goal.invariant-devices
invariant-devices l = map shot_parts l.copy.items ≡ map device_parts (take l.device-index l.devices)
