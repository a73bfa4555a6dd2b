use Rattle.std.proofs.Common.{◌≡◌, ℕ, ◌*◌, ◌<◌, false}
use Rattle.std.specs.Prelude.{nat_le, ◌&&◌}
use Rattle.bits.specs.Sets.{has}
use Rattle.bits.proofs.set.BitSet.first_from.Given as goal

abbrev pub invariant-loop-k : goal.invariant-loop-k
invariant-loop-k l = (i : ℕ) → i < 64 * l.k → (nat_le l.from i && has l.self i) ≡ false
