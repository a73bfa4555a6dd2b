use Rattle.std.proofs.Common.{bit_and, w64, arith}
use Rattle.std.specs.Prelude.{not, ◌&&◌}
use Rattle.std.specs.Int.{bit_not}
use Rattle.std.specs.Int.Bits.{and_lt}
use Rattle.bits.specs.Sets.{all_words, has}
use Rattle.bits.proofs.Zeros.{none_before}
use Rattle.bits.proofs.Firsts.{first_here, none_more, rest_word, none_left}
use Rattle.bits.proofs.set.BitSet.first_not_in.Goals as goal

pub loop-k-init : goal.loop-k-init
loop-k-init c i = none_before c.args.self.now (not (has c.args.other.now i)) i

pub loop-k-preserved : goal.loop-k-preserved
loop-k-preserved c =
    let k = c.loop-k.k in
    let x = c.word.result in
    let y = c.word-in-loop-k.result in
    none_more (λ i. has c.args.self.now i && not (has c.args.other.now i)) k (bit_and x (bit_not w64 y))
    (rest_word (all_words c.args.self.now) (all_words c.args.other.now) k x y c.word.ensures c.word-in-loop-k.ensures
    (omega arith)) c.if-rest-ne0.false c.loop-k.invariant

pub returns-then-rest-ne0 : goal.returns-then-rest-ne0
returns-then-rest-ne0 c =
    let k = c.loop-k.k in
    let x = c.word.result in
    let y = c.word-in-loop-k.result in
    first_here (λ i. has c.args.self.now i && not (has c.args.other.now i)) k (bit_and x (bit_not w64 y))
    (rest_word (all_words c.args.self.now) (all_words c.args.other.now) k x y c.word.ensures c.word-in-loop-k.ensures
    (omega arith)) (omega arith) (and_lt 64 x (bit_not w64 y) (omega arith) (omega arith)) c.loop-k.invariant

pub returns : goal.returns
returns c =
    none_left (all_words c.args.self.now) c.loop-k.k (λ i. not (has c.args.other.now i)) (omega arith) c.loop-k.invariant
