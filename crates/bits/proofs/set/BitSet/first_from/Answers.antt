use Rattle.std.proofs.Common.{◌≡◌, ◌+◌, ◌<◌, ◌/◌, ◌%◌, ◌^◌, ◌≤◌, length, ap, ◌∙◌, subst, w64, arith}
use Rattle.std.specs.Prelude.{nat_le, ◌&&◌}
use Rattle.std.specs.Int.{trailing_zeros}
use Rattle.std.proofs.lemmas.Nat.{trailing_le}
use Rattle.std.proofs.Math.Nat.{div-le_self, pos_of_ne-zero}
use Rattle.bits.specs.Sets.{all_words, has}
use Rattle.bits.proofs.Zeros.{length_all}
use Rattle.bits.proofs.Firsts.{first_here, none_more, above_from, none_from_or_before, first_in_rest, none_after, not_past}
use Rattle.bits.proofs.set.BitSet.first_from.Goals as goal

pub overflow_add-result : goal.overflow_add-result
overflow_add-result c =
    let from = c.args.from in
    let rest = c.word.result / 2 ^ (from % 64) in
    let words = all_words c.args.self.now in
    let set = c.args.self.now in
    let few : set.skipped + length set.words.items ≤ 2 ^ 32 = set.few in
    let all : length words ≡ set.skipped + length set.words.items = length_all set in
    let zeros : trailing_zeros w64 rest ≤ 64 = trailing_le 64 rest in
    let inside : from / 64 < length words = not_past words (from / 64) (from % 64)
    (λ e. c.if-rest-ne0.true (ap (λ n. n / 2 ^ (from % 64)) c.word.ensures ∙ e)) in
    omega arith

pub returns-then-rest-ne0 : goal.returns-then-rest-ne0
returns-then-rest-ne0 c =
    let from = c.args.from in
    let word = c.word.result in
    let rest = word / 2 ^ (from % 64) in
    let less : rest ≤ word = div-le_self word (2 ^ (from % 64)) in
    let some : 0 < rest = pos_of_ne-zero c.if-rest-ne0.true in
    first_in_rest (all_words c.args.self.now) from rest (ap (λ n. n / 2 ^ (from % 64)) c.word.ensures)
    (subst (λ n. n < 2 ^ 64) c.word.ensures c.word.type_inv) some (omega arith)

pub loop-k-init : goal.loop-k-init
loop-k-init c i lt =
    let from = c.args.from in
    none_from_or_before c.args.self.now from (c.word.result / 2 ^ (from % 64))
    (ap (λ n. n / 2 ^ (from % 64)) c.word.ensures) c.if-rest-ne0.false i (omega (arith, lt))

pub loop-k-preserved : goal.loop-k-preserved
loop-k-preserved c =
    let words = all_words c.args.self.now in
    let k = c.loop-k.k in
    let word = c.word-word.result in
    none_more (λ i. nat_le c.args.from i && has c.args.self.now i) k word
    (above_from words c.args.from k word (omega (arith, c.loop-k.auto.k)) c.word-word.ensures)
    c.if-word-ne0.false c.loop-k.invariant

pub returns-then-word-ne0 : goal.returns-then-word-ne0
returns-then-word-ne0 c =
    let words = all_words c.args.self.now in
    let k = c.loop-k.k in
    let word = c.word-word.result in
    first_here (λ i. nat_le c.args.from i && has c.args.self.now i) k word
    (above_from words c.args.from k word (omega (arith, c.loop-k.auto.k)) c.word-word.ensures)
    (omega arith) (omega arith) c.loop-k.invariant

pub returns : goal.returns
returns c =
    none_after (all_words c.args.self.now) c.loop-k.k (λ i. nat_le c.args.from i) (omega arith) c.loop-k.invariant
