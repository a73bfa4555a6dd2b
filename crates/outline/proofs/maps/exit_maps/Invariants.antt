use Rattle.std.proofs.Common.{◌≡◌, map, take}
use Rattle.base.specs.Items.{map_of, exit_kind}
use Rattle.outline.proofs.maps.exit_maps.Given as goal

abbrev pub invariant-texts : goal.invariant-texts
invariant-texts l = l.maps.items ≡ map (map_of exit_kind l.lengths l.loops) (take l.text-index l.texts)
