use Rattle.std.proofs.Common.{◌≡◌, ℕ, ◌<◌, ◌≤◌, true}
use Rattle.bits.specs.Sets.{has}
use Rattle.ranges.proofs.run_list.end_of_run.Given as goal

abbrev pub invariant-loop-i : goal.invariant-loop-i
invariant-loop-i l = (j : ℕ) → l.first ≤ j → j < l.i → has l.set j ≡ true
