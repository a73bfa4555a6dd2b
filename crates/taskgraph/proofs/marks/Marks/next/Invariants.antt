use Rattle.std.proofs.Common.{◌≡◌, ◌*◌, ◌<◌, ◌≤◌, ℕ, false}
use Rattle.taskgraph.specs.Marks.{is_marked}
use Rattle.taskgraph.proofs.marks.Marks.next.Given as goal

abbrev pub invariant-loop-later : goal.invariant-loop-later
invariant-loop-later l = (j : ℕ) → l.from ≤ j → j < 256 * l.later → is_marked l.self j ≡ false
