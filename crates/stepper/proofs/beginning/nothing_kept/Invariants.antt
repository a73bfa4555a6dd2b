use Rattle.std.proofs.Common.{◌≡◌}
use Rattle.std.specs.Prelude.{replicate}
use Rattle.stepper.specs.declared.standing.Slot.TheVariants.{Nothing}
use Rattle.stepper.proofs.beginning.nothing_kept.Given as goal

abbrev pub invariant-loop : goal.invariant-loop
invariant-loop l = l.slots.items ≡ replicate l.counter Nothing
