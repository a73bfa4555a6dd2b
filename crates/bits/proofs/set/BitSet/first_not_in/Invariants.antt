use Rattle.std.proofs.Common.{◌≡◌, ℕ, ◌*◌, ◌<◌, false}
use Rattle.std.specs.Prelude.{not, ◌&&◌}
use Rattle.bits.specs.Sets.{has}
use Rattle.bits.proofs.set.BitSet.first_not_in.Given as goal

abbrev pub invariant-loop-k : goal.invariant-loop-k
invariant-loop-k l = (i : ℕ) → i < 64 * l.k → (has l.self i && not (has l.other i)) ≡ false
