use Rattle.bits.specs.Sets.{all_words}
use Rattle.std.proofs.Common.{arith}
use Rattle.std.proofs.lemmas.Grind.{common_steps}
use Rattle.bits.proofs.set.BitSet.keep_from.Goals as goal

pub returns-then-is_empty-clause-same : goal.returns-then-is_empty-clause-same
unfolding all_words
returns-then-is_empty-clause-same c = grind (arith, common_steps)
