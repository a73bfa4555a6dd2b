use Rattle.std.proofs.Common.{◌≡◌, ◌+◌, ◌*◌, ◌≤◌, ◌/◌, ◌%◌, ◌==◌, length, refl, sym, ap, ◌∙◌, arith}
use Rattle.std.specs.Prelude.{if◌then◌else◌}
use Rattle.std.proofs.lemmas.List.{length-set}
use Rattle.bits.specs.Sets.{all_words, has}
use Rattle.bits.proofs.Firsts.{bit_in}
use Rattle.bits.proofs.FromTo.{span_starts, span_ends, one_more, one_word_more}
use Rattle.bits.proofs.set.BitSet.copy_range.Goals as goal

pub loop-i-init : goal.loop-i-init
loop-i-init c = record {
  start = refl;
  same = refl;
  low = omega arith;
  up = omega arith;
  done = span_starts (has c.args.from.now) (has c.args.self.now) c.args.first;
}

pub loop-i-preserved-then-is_whole : goal.loop-i-preserved-then-is_whole
loop-i-preserved-then-is_whole c =
    let whole = c.is_whole.ensures.0 c.if-is_whole.true in
    let begins : c.loop-i.i % 64 ≡ 0 = whole.0 in
    let ends : c.loop-i.i + 64 ≤ c.args.end = whole.1 in
    let words = all_words c.loop-i.self in
    let same : length words ≡ length (all_words c.args.self.now) = c.loop-i.invariant.same in
    record {
      start = c.set_word.ensures.start ∙ c.loop-i.invariant.start;
      same = ap length c.set_word.ensures.set ∙ length-set words (c.loop-i.i / 64) c.word.result ∙ c.loop-i.invariant.same;
      low = omega (arith, c.loop-i.invariant.low);
      up = omega arith;
      done = one_word_more (has c.args.from.now) (has c.args.self.now) c.args.first c.loop-i.i c.loop-i.invariant.low words (all_words c.set_word.new.self) c.word.result c.set_word.ensures.set begins
          (omega (arith, c.requires.room)) (λ k e. sym (bit_in (all_words c.args.from.now) (c.loop-i.i / 64) c.word.result c.word.ensures k e)) c.loop-i.invariant.done;
    }

pub loop-i-preserved : goal.loop-i-preserved
loop-i-preserved c =
    let start : 64 * c.put.new.self.skipped ≡ 64 * c.loop-i.self.skipped = c.put.ensures.start in
    let room : 64 * length (all_words c.put.new.self) ≡ 64 * length (all_words c.loop-i.self) = c.put.ensures.room in
    record {
      start = omega (arith, c.loop-i.invariant.start);
      same = omega (arith, c.loop-i.invariant.same);
      low = omega (arith, c.loop-i.invariant.low);
      up = omega arith;
      done = one_more (has c.args.from.now) (has c.args.self.now) c.args.first c.loop-i.i c.loop-i.invariant.low (has c.loop-i.self)
          (has c.put.new.self) (λ k. c.put.ensures.put k ∙ ap (λ b. if c.loop-i.i == k then b else has c.loop-i.self k) c.contains.ensures) c.loop-i.invariant.done;
    }

pub returns : goal.returns
returns c = record {
  copied = span_ends (has c.args.from.now) (has c.args.self.now) (has c.loop-i.self) c.args.first c.loop-i.i c.args.end
      (omega (arith, c.loop-i-test.false)) c.loop-i.invariant.up c.loop-i.invariant.done;
  start = ap (λ n. 64 * n) c.loop-i.invariant.start;
  room = ap (λ n. 64 * n) c.loop-i.invariant.same;
}
