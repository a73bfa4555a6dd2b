use Rattle.std.proofs.Common.{◌≡◌, ℕ, ◌-◌, ◌<◌, ◌≤◌, true}
use Rattle.bits.specs.Sets.{has}
use Rattle.bits.proofs.set.BitSet.has_range.Given as goal

abbrev pub invariant-loop-i : goal.invariant-loop-i
invariant-loop-i l = record {
  low : l.first ≤ l.i;
  all : (k : ℕ) → l.first ≤ k → k < l.i → has l.self k ≡ true;
}

abbrev pub decreases-loop-i : goal.decreases-loop-i
decreases-loop-i l = l.end - l.i
