use Rattle.ranges.specs.Reach.{AreLeastRuns, touched_by}
use Rattle.ranges.proofs.reached.reach.Given as goal

abbrev pub invariant-arrays : goal.invariant-arrays
invariant-arrays l = AreLeastRuns (touched_by l.footprint) l.a l.runs.items
