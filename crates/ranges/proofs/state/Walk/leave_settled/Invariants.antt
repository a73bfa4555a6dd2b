use Rattle.std.proofs.Common.{◌≡◌, ◌-◌, length}
use Rattle.ranges.specs.Seen.{after, seen_in}
use Rattle.ranges.specs.Straight.{turns_at}
use Rattle.ranges.proofs.state.Walk.leave_settled.Given as goal

abbrev pub invariant-loop-i : goal.invariant-loop-i
invariant-loop-i l = record {
  rest : after l.lengths (turns_at l.fn.bounds.first l.fn.bounds l.accesses.items l.loops l.certain) (seen_in l.self)
      ≡ after l.lengths (turns_at l.fn.bounds.first l.fn.bounds l.initial.accesses.items l.loops l.certain) (seen_in l.self);
}

abbrev pub decreases-loop-i : goal.decreases-loop-i
decreases-loop-i l = length l.accesses.items - l.i
