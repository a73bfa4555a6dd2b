use Rattle.std.proofs.Common.{◌≡◌, ℕ, ◌+◌, ◌*◌, ◌<◌, true, sym, subst, arith}
use Rattle.std.specs.Prelude.{◌↔◌, nat_le}
use Rattle.bits.specs.Sets.{all_words, has}
use Rattle.bits.proofs.Firsts.{bit_in}
use Rattle.bits.proofs.FromTo.{all_more, missing_here, missing_past}
use Rattle.bits.proofs.set.BitSet.has_all.Goals as goal

pub loop-k-preserved : goal.loop-k-preserved
loop-k-preserved c =
    let words = all_words c.args.self.now in
    let k = c.loop-k.k in
    let word = c.word-word.result in
    all_more (has c.args.self.now) k word
    (bit_in words k word c.word-word.ensures) c.loop-k.invariant c.if-word.false

pub returns-then-word : goal.returns-then-word
returns-then-word c =
    let words = all_words c.args.self.now in
    let k = c.loop-k.k in
    let word = c.word-word.result in
    subst
    (λ t. (nat_le c.args.count (64 * k + t) ≡ true) ↔ ((i : ℕ) → i < c.args.count → has c.args.self.now i ≡ true))
    (sym c.trailing_ones.ensures)
    (missing_here (has c.args.self.now) k word
    (bit_in words k word c.word-word.ensures) c.loop-k.invariant (omega arith)
    c.args.count)

pub returns : goal.returns
returns c =
    missing_past (all_words c.args.self.now) c.room.result c.args.count c.room.ensures
    (λ i lt. c.loop-k.invariant i (omega (arith, c.room.ensures)))
