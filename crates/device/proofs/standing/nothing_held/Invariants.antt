use Rattle.std.proofs.Common.{◌≡◌}
use Rattle.std.specs.Prelude.{replicate}
use Rattle.device.specs.declared.standing.Held.TheVariants.{Nothing}
use Rattle.device.proofs.standing.nothing_held.Given as goal

abbrev pub invariant-loop : goal.invariant-loop
invariant-loop l = l.held.items ≡ replicate l.counter Nothing
