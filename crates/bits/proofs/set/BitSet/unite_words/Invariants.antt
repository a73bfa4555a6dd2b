use Rattle.std.proofs.Common.{◌≡◌, ◌<◌, ◌≤◌, bit_or}
use Rattle.bits.specs.Sets.{all_words}
use Rattle.bits.proofs.Words.{Changed}
use Rattle.bits.proofs.set.BitSet.unite_words.Given as goal

abbrev pub invariant-loop-k : goal.invariant-loop-k
invariant-loop-k l = record {
  none : l.end < l.first → l.k ≤ l.first;
  start : l.self.skipped ≡ l.fn.self.skipped;
  changed : Changed bit_or (all_words l.fn.self) (all_words l.other) l.first l.k (all_words l.self);
}
