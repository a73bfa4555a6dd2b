use Rattle.std.proofs.Common.{length, bit_and, arith}
use Rattle.std.specs.Prelude.{◌&&◌}
use Rattle.std.specs.Int.Bits.{and_lt}
use Rattle.bits.specs.Sets.{all_words, has}
use Rattle.bits.proofs.Words.{end_reached}
use Rattle.bits.proofs.Zeros.{none_common_before}
use Rattle.bits.proofs.Firsts.{first_here, none_more, common_word, none_common}
use Rattle.bits.proofs.set.BitSet.first_common.Goals as goal

pub loop-k-init : goal.loop-k-init
loop-k-init c i lt = none_common_before c.args.self.now c.args.other.now i (omega (arith, lt))

pub loop-k-preserved : goal.loop-k-preserved
loop-k-preserved c =
    let k = c.loop-k.k in
    let x = c.word.result in
    let y = c.word-in-loop-k.result in
    none_more (λ i. has c.args.self.now i && has c.args.other.now i) k (bit_and x y)
    (common_word (all_words c.args.self.now) (all_words c.args.other.now) k x y c.word.ensures c.word-in-loop-k.ensures)
    c.if-both-ne0.false c.loop-k.invariant

pub returns-then-both-ne0 : goal.returns-then-both-ne0
returns-then-both-ne0 c =
    let k = c.loop-k.k in
    let x = c.word.result in
    let y = c.word-in-loop-k.result in
    first_here (λ i. has c.args.self.now i && has c.args.other.now i) k (bit_and x y)
    (common_word (all_words c.args.self.now) (all_words c.args.other.now) k x y c.word.ensures c.word-in-loop-k.ensures)
    (omega arith) (and_lt 64 x y (omega arith) (omega arith)) c.loop-k.invariant

pub returns : goal.returns
returns c =
    let a = all_words c.args.self.now in
    let b = all_words c.args.other.now in
    none_common a b c.loop-k.k (end_reached c.loop-k.k (length a) (length b) (omega arith)) c.loop-k.invariant
