use Rattle.std.proofs.Common.{◌≡◌, ◌≤◌, ◌-◌}
use Rattle.ranges.specs.Seen.{after, seen_in}
use Rattle.ranges.specs.Straight.{turns_at}
use Rattle.ranges.proofs.state.Walk.note_loop.Given as goal

abbrev pub invariant-loop-rest : goal.invariant-loop-rest
invariant-loop-rest l = record {
  loops : l.loops.items ≡ l.initial.loops.items;
  turns : 1 ≤ l.turns;
  rest : after l.lengths (turns_at l.rest.first l.rest l.accesses.items l.initial.loops.items l.certain) (seen_in l.self)
      ≡ after l.lengths (turns_at l.fn.bounds.first l.fn.bounds l.initial.accesses.items l.initial.loops.items l.certain)
      (seen_in l.initial.self);
}

abbrev pub decreases-loop-rest : goal.decreases-loop-rest
decreases-loop-rest l = l.rest.end - l.rest.first
