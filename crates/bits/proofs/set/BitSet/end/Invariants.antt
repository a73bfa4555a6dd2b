use Rattle.std.proofs.Common.{◌≡◌, ℕ, ◌*◌, ◌≤◌, false}
use Rattle.bits.specs.Sets.{has}
use Rattle.bits.proofs.set.BitSet.end.Given as goal

abbrev pub invariant-loop-k : goal.invariant-loop-k
invariant-loop-k l = (i : ℕ) → 64 * l.k ≤ i → has l.self i ≡ false
