use Rattle.std.proofs.Common.{◌≡◌, map, take}
use Rattle.base.specs.Items.{update_of}
use Rattle.outline.proofs.maps.update_maps.Given as goal

abbrev pub invariant-texts : goal.invariant-texts
invariant-texts l = l.maps.items ≡ map (update_of l.lengths l.loops) (take l.text-index l.texts)
