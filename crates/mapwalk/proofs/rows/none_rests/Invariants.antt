use Rattle.std.proofs.Common.{◌≡◌, map, take}
use Rattle.base.specs.Actions.{always_works}
use Rattle.mapwalk.proofs.rows.none_rests.Given as goal

abbrev pub invariant-maps : goal.invariant-maps
invariant-maps l = l.rests.items ≡ map always_works (take l._item-index l.maps)
