use Rattle.std.proofs.Common.{◌≡◌, ◌<◌, false}
use Rattle.std.specs.Prelude.{◌&&◌, ◌||◌, not}
use Rattle.std.specs.List.{list_any}
use Rattle.base.specs.declared.item.Cell.{Cell}
use Rattle.base.specs.Memory.{is_in}
use Rattle.ranges.specs.Cells.{has}
use Rattle.mapwalk.proofs.causes.least_unmapped.Given as goal

abbrev pub invariant-arrays : goal.invariant-arrays
invariant-arrays l = (c : Cell) → c.array.0 < l.a →
    ((has l.f.read c || has l.f.write c) && not (list_any (λ m. is_in c m.section) l.maps)) ≡ false
