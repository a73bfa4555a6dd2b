use Rattle.std.specs.Prelude.{false}
use Rattle.ranges.specs.Reach.{AreLeastRuns}
use Rattle.ranges.proofs.reached.no_reach.Given as goal

abbrev pub invariant-arrays : goal.invariant-arrays
invariant-arrays l = AreLeastRuns (λ c. false) l.a l.runs.items
