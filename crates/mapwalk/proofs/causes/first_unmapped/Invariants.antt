use Rattle.std.proofs.Common.{◌≡◌, ℕ, ◌-◌, ◌<◌, false}
use Rattle.std.specs.Prelude.{◌&&◌, ◌||◌, not}
use Rattle.std.specs.List.{list_any}
use Rattle.base.specs.Memory.{is_in}
use Rattle.bits.specs.Sets.{has}
use Rattle.mapwalk.proofs.causes.first_unmapped.Given as goal

abbrev pub invariant-cells : goal.invariant-cells
invariant-cells l = (j : ℕ) → j < l.from →
    ((has l.read j || has l.write j)
    && not (list_any (λ m. is_in (record { array = l.array; index = j }) m.section) l.maps)) ≡ false

abbrev pub decreases-cells : goal.decreases-cells
decreases-cells l = l.end - l.from
