use Rattle.std.proofs.Common.{◌≡◌, false, take}
use Rattle.std.specs.List.{list_any}
use Rattle.base.specs.Memory.{is_in}
use Rattle.mapwalk.proofs.causes.mapped_end.Given as goal

abbrev pub invariant-maps : goal.invariant-maps
invariant-maps l = list_any (λ m. is_in l.cell m.section) (take l.item-index l.maps) ≡ false
