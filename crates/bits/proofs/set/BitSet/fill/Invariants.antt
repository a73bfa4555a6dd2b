use Rattle.std.proofs.Common.{◌≡◌, ℕ, ◌≤◌, ◌-◌, max, length}
use Rattle.bits.specs.Sets.{all_words, has}
use Rattle.bits.proofs.FromTo.{spanned}
use Rattle.bits.proofs.set.BitSet.fill.Given as goal

abbrev pub invariant-loop-i : goal.invariant-loop-i
invariant-loop-i l = record {
  start : l.self.skipped ≡ l.fn.self.skipped;
  same : length (all_words l.self) ≡ length (all_words l.fn.self);
  low : l.first ≤ l.i;
  up : l.i ≤ max l.first l.end;
  done : (k : ℕ) → has l.self k ≡ spanned (λ j. l.on) (has l.fn.self) l.first l.i k;
}

abbrev pub decreases-loop-i : goal.decreases-loop-i
decreases-loop-i l = l.end - l.i
