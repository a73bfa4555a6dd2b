use Rattle.std.proofs.Common.{List, ℕ, subst}
use Rattle.std.specs.Prelude.{◌&&◌, not, slice_index}
use Rattle.base.specs.Value.{is_zero}
use Rattle.kernel.specs.Lanes.{block_of, takes_part}
use Rattle.kernel.specs.Masks.{IsMask}
use Rattle.kernel.proofs.BlockLanes.{chosen_are, others_are}
use Rattle.kernel.proofs.block.split.Goals as goal

pub returns-clause-chosen : goal.returns-clause-chosen
returns-clause-chosen c =
    chosen_are c.args.at.now c.args.c.now (block_of c.args.at.now c.args.lanes.now c.args.rows.now) c.in_ok-numbers.numbers.items
    c.in_ok-numbers.ensures.values c.in_ok-chosen.chosen.items
    (subst (λ (ys : List ℕ). IsMask c.args.at.now.count (λ k. takes_part c.args.at.now k && not (is_zero (slice_index ys k))) c.in_ok-chosen.chosen.items)
    c.deref.ensures.value c.in_ok-chosen.ensures)

pub returns-clause-others : goal.returns-clause-others
returns-clause-others c =
    others_are c.args.at.now c.args.c.now (block_of c.args.at.now c.args.lanes.now c.args.rows.now) c.in_ok-numbers.numbers.items
    c.in_ok-numbers.ensures.values c.in_ok-others.others.items
    (subst (λ (ys : List ℕ). IsMask c.args.at.now.count (λ k. takes_part c.args.at.now k && is_zero (slice_index ys k)) c.in_ok-others.others.items)
    c.deref-2.ensures.value c.in_ok-others.ensures)
