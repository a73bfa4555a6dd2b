use Rattle.std.proofs.Common.{◌∙◌, eqb-true, true}
use Rattle.bits.specs.Sets.{all_words}
use Rattle.bits.proofs.Firsts.{bit_in}
use Rattle.bits.proofs.FromTo.{bits_of_word}
use Rattle.bits.proofs.set.BitSet.is_full_word.Goals as goal

pub returns-then-k-end_word : goal.returns-then-k-end_word
returns-then-k-end_word c full i e =
    let words = all_words c.args.self.now in
    bit_in words c.args.k c.word.result c.word.ensures i e
    ∙ bits_of_word true c.word.result i (eqb-true c.word.result 18446744073709551615 full)
