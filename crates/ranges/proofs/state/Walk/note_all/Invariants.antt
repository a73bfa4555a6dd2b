use Rattle.std.proofs.Common.{◌≡◌, drop}
use Rattle.ranges.specs.Seen.{after, seen_in}
use Rattle.ranges.specs.Straight.{touches_at}
use Rattle.ranges.proofs.state.Walk.note_all.Given as goal

abbrev pub invariant-loop-access : goal.invariant-loop-access
invariant-loop-access l =
    after l.lengths (touches_at (drop l.access-index l.accesses) l.loops l.certain) (seen_in l.self)
    ≡ after l.lengths (touches_at l.accesses l.loops l.certain) (seen_in l.initial.self)
