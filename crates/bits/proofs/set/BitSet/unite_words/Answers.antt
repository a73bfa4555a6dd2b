use Rattle.std.proofs.Common.{◌≡◌, refl, ◌∙◌, length, bit_or, arith}
use Rattle.bits.specs.Sets.{all_words}
use Rattle.bits.proofs.Words.{none_changed, one_changed, united}
use Rattle.bits.proofs.set.BitSet.unite_words.Goals as goal

pub loop-k-init : goal.loop-k-init
loop-k-init c = record {
  none = λ h. omega arith;
  start = refl;
  changed = none_changed bit_or (all_words c.args.self.now) (all_words c.args.other.now) c.args.first c.args.first refl;
}

pub loop-k-preserved : goal.loop-k-preserved
loop-k-preserved c =
    let old = all_words c.args.self.now in
    let other = all_words c.args.other.now in
    let new = all_words c.loop-k.self in
    let same : length new ≡ length old = c.loop-k.invariant.changed.same in
    record {
      none = λ h. absurd (omega (arith, h, c.loop-k.auto.k));
      start = c.set_word.ensures.start ∙ c.loop-k.invariant.start;
      changed = one_changed bit_or old other new (all_words c.set_word.new.self) c.args.first c.loop-k.k
          c.word.result c.word-in-loop-k.result c.loop-k.invariant.changed c.loop-k.auto.k
          (omega arith) c.word.ensures c.word-in-loop-k.ensures (omega arith) c.set_word.ensures.set;
    }

pub returns-clause-united : goal.returns-clause-united
returns-clause-united c =
    united (all_words c.args.self.now) (all_words c.args.other.now) (all_words c.loop-k.self) c.args.first c.args.end c.loop-k.k
    c.loop-k.invariant.changed (omega arith) (λ h. c.loop-k.auto.k-end h) c.loop-k.invariant.none
