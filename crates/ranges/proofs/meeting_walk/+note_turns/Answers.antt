use Rattle.std.proofs.Common.{◌-◌, ◌++◌, ◌∷◌, [], sym, ap, ◌∙◌, arith}
use Rattle.std.proofs.lemmas.Grind.{common_steps}
use Rattle.ranges.specs.Ways.{after_turns, nest_in, noted_in}
use Rattle.ranges.proofs.NestTurns.{nest_turns, no_nest_turn, noted_turn}
use Rattle.ranges.proofs.meeting_walk.+note_turns.Goals as goal

pub loop-v-preserved : goal.loop-v-preserved
loop-v-preserved t c =
    let nest = c.in-Some.nest in
    record {
      loops = grind (arith, common_steps);
      rest =
          noted_turn c.args.lengths.now c.loop-v.v nest.bounds (c.args.depth - 1) nest.body.now c.args.loops.now.items
          c.push.new.self.items (noted_in c.loop-v.meetings) (noted_in c.note_turns.new.meetings) c.loop-v-test.true
          (c.in_ok-push.ensures.items ∙ ap (λ ls. ls ++ c.loop-v.v ∷ []) c.loop-v.invariant.loops)
          c.in_ok-note_turns.ensures.noted
          ∙ c.loop-v.invariant.rest;
    }

pub returns-clause-noted : goal.returns-clause-noted
returns-clause-noted t c =
    let nest = c.in-Some.nest in
    let loops = c.args.loops.now.items in
    sym (ap (λ ts. after_turns c.args.lengths.now ts (noted_in c.loop-v.meetings))
    (no_nest_turn c.loop-v.v nest.bounds (c.args.depth - 1) nest.body.now loops c.loop-v-test.false))
    ∙ c.loop-v.invariant.rest
    ∙ ap (λ ts. after_turns c.args.lengths.now ts (noted_in c.args.meetings.now))
    (sym (nest_turns c.args.depth c.args.body.now loops nest.bounds nest.body.now
    (sym c.nest_at.ensures.found ∙ ap nest_in c.in-Some.is)))
