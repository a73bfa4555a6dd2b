use Rattle.std.proofs.Common.{◌≡◌, ◌≤◌, ℕ, length}
use Rattle.std.specs.Prelude.{slice_index}
use Rattle.actions.proofs.scalars.end_of.Given as goal

abbrev pub invariant-numbers : goal.invariant-numbers
invariant-numbers l = record {
  within : l.end ≤ length l.numbers;
  zeros : (k : ℕ) → l.end ≤ k → slice_index l.numbers k ≡ 0;
}

abbrev pub decreases-numbers : goal.decreases-numbers
decreases-numbers l = l.end
