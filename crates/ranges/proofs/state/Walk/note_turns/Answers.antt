use Rattle.std.proofs.Common.{◌++◌, ◌∷◌, [], arith, sym, ap, ◌∙◌}
use Rattle.std.proofs.lemmas.Grind.{common_steps}
use Rattle.ranges.specs.Seen.{after, seen_in}
use Rattle.ranges.proofs.StraightTouches.{no_turn_noted, turn_noted}
use Rattle.ranges.proofs.state.Walk.note_turns.Goals as goal

pub loop-v-preserved : goal.loop-v-preserved
loop-v-preserved c = record {
  loops = grind (arith, common_steps);
  rest =
      turn_noted c.args.lengths.now c.loop-v.v c.args.bounds c.args.accesses.now c.args.loops.now.items
      c.deref.result.now c.args.certain (seen_in c.loop-v.self) (seen_in c.note_all.new.self) c.loop-v-test.true
      (c.deref.ensures.value ∙ c.in_ok-push.ensures.items ∙ ap (λ ls. ls ++ c.loop-v.v ∷ []) c.loop-v.invariant.loops)
      c.in_ok-note_all.ensures
      ∙ c.loop-v.invariant.rest;
}

pub returns-clause-seen : goal.returns-clause-seen
returns-clause-seen c =
    sym (ap (λ ts. after c.args.lengths.now ts (seen_in c.loop-v.self))
    (no_turn_noted c.loop-v.v c.args.bounds c.args.accesses.now c.args.loops.now.items c.args.certain
    c.loop-v-test.false))
    ∙ c.loop-v.invariant.rest
