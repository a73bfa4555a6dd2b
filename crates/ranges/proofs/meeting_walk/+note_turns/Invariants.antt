use Rattle.std.proofs.Common.{◌≡◌, ◌-◌}
use Rattle.ranges.specs.Ways.{after_turns, noted_in}
use Rattle.ranges.proofs.NestTurns.{nest_from}
use Rattle.ranges.proofs.meeting_walk.+note_turns.Given as goal

abbrev pub invariant-loop-v : goal.invariant-loop-v
invariant-loop-v l = record {
  loops : l.loops.items ≡ l.initial.loops.items;
  rest : after_turns l.lengths (nest_from l.v l.nest.bounds (l.depth - 1) l.nest.body.now l.initial.loops.items)
      (noted_in l.meetings)
      ≡ after_turns l.lengths
      (nest_from l.nest.bounds.first l.nest.bounds (l.depth - 1) l.nest.body.now l.initial.loops.items)
      (noted_in l.initial.meetings);
}

abbrev pub decreases-loop-v : goal.decreases-loop-v
decreases-loop-v l = l.nest.bounds.end - l.v

abbrev pub decreases-note_turns : goal.decreases-note_turns
decreases-note_turns l = l.depth
