use Rattle.std.proofs.Common.{◌≡◌, ℕ, ◌*◌, ◌<◌, false}
use Rattle.std.specs.Prelude.{◌&&◌}
use Rattle.bits.specs.Sets.{has}
use Rattle.bits.proofs.set.BitSet.first_common.Given as goal

abbrev pub invariant-loop-k : goal.invariant-loop-k
invariant-loop-k l = (i : ℕ) → i < 64 * l.k → (has l.self i && has l.other i) ≡ false
