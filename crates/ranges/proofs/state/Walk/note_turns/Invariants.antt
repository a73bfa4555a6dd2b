use Rattle.std.proofs.Common.{◌≡◌, ◌-◌}
use Rattle.ranges.specs.Seen.{after, seen_in}
use Rattle.ranges.specs.Straight.{turns_at}
use Rattle.ranges.proofs.state.Walk.note_turns.Given as goal

abbrev pub invariant-loop-v : goal.invariant-loop-v
invariant-loop-v l = record {
  loops : l.loops.items ≡ l.initial.loops.items;
  rest : after l.lengths (turns_at l.v l.bounds l.accesses l.initial.loops.items l.certain) (seen_in l.self)
      ≡ after l.lengths (turns_at l.bounds.first l.bounds l.accesses l.initial.loops.items l.certain)
      (seen_in l.initial.self);
}

abbrev pub decreases-loop-v : goal.decreases-loop-v
decreases-loop-v l = l.bounds.end - l.v
