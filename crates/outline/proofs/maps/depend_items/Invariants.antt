use Rattle.std.proofs.Common.{◌≡◌, take}
use Rattle.base.specs.Items.{depends_of}
use Rattle.outline.proofs.maps.depend_items.Given as goal

abbrev pub invariant-texts : goal.invariant-texts
invariant-texts l = l.depends.items ≡ depends_of l.lengths l.loops (take l.text-index l.texts)
