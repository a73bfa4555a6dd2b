use Rattle.std.proofs.Common.{arith}
use Rattle.std.specs.Vec.{vec_len}
use Rattle.bits.specs.Sets.{all_words}
use Rattle.bits.proofs.Zeros.{resized}
use Rattle.bits.proofs.set.BitSet.keep_up_to.Goals as goal

pub returns-in_ok-resize-clause-same : goal.returns-in_ok-resize-clause-same
unfolding all_words
returns-in_ok-resize-clause-same c =
    let kept = c.args.self.now.words in
    resized c.args.self.now.skipped c.saturating_sub-kept.result (vec_len kept) kept.items c.resize.new.self.items
    (omega arith) (omega arith) c.in_ok-resize.ensures.items
