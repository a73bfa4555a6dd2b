use Rattle.std.proofs.Common.{◌≡◌, ◌*◌, ap, ap₂, ◌∙◌, length, min}
use Rattle.std.specs.Prelude.{◌||◌, ◌&&◌}
use Rattle.bits.specs.Sets.{all_words, has, is_from}
use Rattle.bits.proofs.Words.{of_both}
use Rattle.bits.proofs.Zeros.{below_start}
use Rattle.bits.proofs.set.BitSet.union_with.Goals as goal

pub returns-clause-united : goal.returns-clause-united
returns-clause-united c = λ i.
    let set = c.args.self.now in
    let other = c.args.other.now in
    let end : c.min-end.result ≡ min (length (all_words set)) (length (all_words other)) =
    c.min-end.ensures ∙ ap₂ min c.end_word.ensures.end c.end_word-2.ensures.end in
    c.unite_words.ensures.united i
    ∙ ap (λ n. has set i || (is_from (64 * other.skipped) (64 * n) i && has other i)) end
    ∙ ap (λ b. has set i || b) (of_both (all_words other) other.skipped (length (all_words set)) i (below_start other))
