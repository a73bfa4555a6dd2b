use Rattle.std.proofs.Common.{◌≡◌, max, refl, ◌∙◌, length, arith}
use Rattle.bits.specs.Sets.{all_words}
use Rattle.bits.proofs.Words.{minus, none_changed, one_changed, end_reached, rest_left}
use Rattle.bits.proofs.Zeros.{none_common_before}
use Rattle.bits.proofs.set.BitSet.difference_with.Goals as goal

pub loop-k-init : goal.loop-k-init
loop-k-init c = record {
  start = refl;
  changed = none_changed minus (all_words c.args.self.now) (all_words c.args.other.now)
      (max c.args.self.now.skipped c.args.other.now.skipped) c.max-k.result (omega arith);
}

pub loop-k-preserved : goal.loop-k-preserved
loop-k-preserved c =
    let old = all_words c.args.self.now in
    let other = all_words c.args.other.now in
    let new = all_words c.loop-k.self in
    let same : length new ≡ length old = c.loop-k.invariant.changed.same in
    record {
      start = c.set_word.ensures.start ∙ c.loop-k.invariant.start;
      changed = one_changed minus old other new (all_words c.set_word.new.self)
          (max c.args.self.now.skipped c.args.other.now.skipped) c.loop-k.k
          c.word.result c.word-in-loop-k.result c.loop-k.invariant.changed (omega (arith, c.loop-k.auto.k))
          (omega arith) c.word.ensures c.word-in-loop-k.ensures (omega arith) c.set_word.ensures.set;
    }

pub returns-clause-rest : goal.returns-clause-rest
returns-clause-rest c =
    let set = c.args.self.now in
    let other = c.args.other.now in
    rest_left (all_words set) (all_words other) (all_words c.loop-k.self) (max set.skipped other.skipped) c.loop-k.k
    c.loop-k.invariant.changed (none_common_before set other)
    (end_reached c.loop-k.k (length (all_words set)) (length (all_words other)) (omega arith))
