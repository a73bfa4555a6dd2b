use Rattle.std.proofs.Common.{◌≡◌, ◌+◌, ◌-◌, ◌*◌, ◌≤◌, ℕ, false, subst, ⊎_elim, arith}
use Rattle.std.proofs.lemmas.Bool.{cases_lt}
use Rattle.bits.specs.Sets.{all_words, has}
use Rattle.bits.proofs.Zeros.{below_start}
use Rattle.bits.proofs.Firsts.{none_less, end_here, bit_in, past_words, no_end}
use Rattle.bits.proofs.set.BitSet.end.Goals as goal

pub loop-k-init : goal.loop-k-init
loop-k-init c = past_words (all_words c.args.self.now) c.end_word-k.result (omega arith)

pub loop-k-preserved : goal.loop-k-preserved
loop-k-preserved c =
    let words = all_words c.args.self.now in
    let k = c.loop-k.k - 1 in
    let word = c.word-word.result in
    let next : c.loop-k.k ≡ k + 1 = omega arith in
    none_less (has c.args.self.now) k word
    (bit_in words k word c.word-word.ensures) c.if-word-ne0.false
    (subst (λ m. (i : ℕ) → 64 * m ≤ i → has c.args.self.now i ≡ false) next c.loop-k.invariant)

pub returns-then-word-ne0 : goal.returns-then-word-ne0
returns-then-word-ne0 c =
    let words = all_words c.args.self.now in
    let k = c.loop-k.k - 1 in
    let word = c.word-word.result in
    let next : c.loop-k.k ≡ k + 1 = omega arith in
    end_here (has c.args.self.now) k word
    (bit_in words k word c.word-word.ensures) (omega arith) (omega arith)
    (subst (λ m. (i : ℕ) → 64 * m ≤ i → has c.args.self.now i ≡ false) next c.loop-k.invariant)

pub returns : goal.returns
returns c =
    let set = c.args.self.now in
    no_end (has set)
    (λ i. ⊎_elim (below_start set i)
    (λ (le : 64 * set.skipped ≤ i). c.loop-k.invariant i (omega arith)) (cases_lt i (64 * set.skipped)))
