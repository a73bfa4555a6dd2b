use Rattle.std.proofs.Common.{◌*◌, ◌/◌, ap, ap₂, sym, ◌∙◌, arith}
use Rattle.std.specs.Prelude.{◌||◌, ◌&&◌}
use Rattle.std.proofs.lemmas.Bool.{le-leb}
use Rattle.bits.specs.Sets.{has, is_from}
use Rattle.bits.proofs.Words.{of_all}
use Rattle.bits.proofs.set.BitSet.extend_with.Goals as goal

pub returns-in_ok-make_room-clause-all : goal.returns-in_ok-make_room-clause-all
returns-in_ok-make_room-clause-all c = λ i.
    let set = c.args.self.now in
    let other = c.args.other.now in
    c.unite_words.ensures.united i
    ∙ ap₂ (λ a n. a || (is_from (64 * (c.in-Some.first / 64)) (64 * n) i && has other i)) (c.make_room.ensures.same i) c.div_ceil.ensures
    ∙ ap (λ b. has set i || b) (of_all (has other) c.in-Some.first c.end-end.result i
    (λ j lt. sym (ap (λ b. b && has other j) (le-leb 0 j (omega arith))) ∙ c.in-Some.ensures.1 j lt) c.end-end.ensures.below)
