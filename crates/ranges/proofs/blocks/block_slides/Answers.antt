use Rattle.std.proofs.Common.{◌≡◌, ◌+◌, ◌*◌, ◌-◌, sym, ap, ◌∙◌, subst, arith}
use Rattle.std.proofs.lemmas.Grind.{common_steps}
use Rattle.ranges.specs.Cases.{AreTurns, body_at}
use Rattle.ranges.specs.Seen.{list_touches}
use Rattle.ranges.proofs.TurnBlocks.{fit_listed, turn_listed}
use Rattle.ranges.proofs.blocks.block_slides.Goals as goal

pub loop-done-preserved : goal.loop-done-preserved
loop-done-preserved c =
    let lengths = c.args.lengths.now in
    let loops = c.args.loops.now in
    let all = c.args.all in
    let step = c.args.step in
    let done = c.loop-done.done in
    let bounds = c.moved-bounds.result in
    let old = c.loop-done.slides.items in
    let new = c.add_all.new.slides.items in
    let adds = c.in_ok-add_all.ensures c.if-not-branch.false in
    let next : all.first + step * done + step ≡ all.first + step * (done + 1) = grind arith in
    record {
      few = let lt = c.loop-done-test.true in omega (arith, lt);
      first = ap (λ m. m + step) c.loop-done.invariant.first ∙ next;
      here = grind (arith, common_steps);
      are = turn_listed lengths loops all bounds step done c.args.body.now c.args.certain old new
          (c.moved-bounds.ensures.first ∙ c.loop-done.invariant.first)
          (c.moved-bounds.ensures.end ∙ ap (λ m. m + (all.end - all.first)) (sym c.moved-bounds.ensures.first))
          c.moved-bounds.ensures.step c.loop-done.invariant.are adds;
      fit = fit_listed lengths loops all bounds (λ ls. list_touches c.args.body.now ls c.args.certain) old new
          (c.moved-bounds.ensures.end ∙ ap (λ m. m + (all.end - all.first)) (sym c.moved-bounds.ensures.first))
          adds c.loop-done.invariant.fit;
    }

pub returns-clause-are : goal.returns-clause-are
returns-clause-are c =
    let few = c.loop-done.invariant.few in
    let last = c.loop-done-test.false in
    let all_done : c.loop-done.done ≡ c.args.turns = omega (arith, few, last) in
    subst (λ n. AreTurns c.args.all c.args.step n (body_at c.args.body.now c.args.loops.now c.args.certain) c.loop-done.slides.items)
    all_done c.loop-done.invariant.are
