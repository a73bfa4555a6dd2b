use Rattle.std.proofs.Common.{◌<◌, ◌/◌, ap, ◌∙◌, length, arith}
use Rattle.bits.specs.Sets.{all_words, has_bit}
use Rattle.bits.proofs.Words.{bit_set}
use Rattle.bits.proofs.set.BitSet.insert.Goals as goal

pub returns-clause-added : goal.returns-clause-added
returns-clause-added c k =
    let words = all_words c.args.self.now in
    let i = c.args.i in
    let inside : i / 64 < length words = omega (arith, c.requires.room) in
    ap (λ words. has_bit words k) c.set_word.ensures.set ∙ bit_set words i c.word.result inside c.word.ensures k
