use Rattle.std.proofs.Common.{◌≡◌, max}
use Rattle.bits.specs.Sets.{all_words}
use Rattle.bits.proofs.Words.{Changed, minus}
use Rattle.bits.proofs.set.BitSet.difference_with.Given as goal

abbrev pub invariant-loop-k : goal.invariant-loop-k
invariant-loop-k l = record {
  start : l.self.skipped ≡ l.fn.self.skipped;
  changed : Changed minus (all_words l.fn.self) (all_words l.other) (max l.fn.self.skipped l.other.skipped) l.k (all_words l.self);
}
