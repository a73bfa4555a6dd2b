use Rattle.std.proofs.Common.{ℕ, ◌≡◌, ◌+◌, ◌<◌, true}
use Rattle.std.specs.Prelude.{slice_index}
use Rattle.kernel.proofs.values.first_of_run.Given as goal

abbrev pub invariant-lanes : goal.invariant-lanes
invariant-lanes l = l.follows ≡ true → (k : ℕ) → k < l.j → slice_index l.row k ≡ l.first + k
