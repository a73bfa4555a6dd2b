use Rattle.ranges.specs.Ways.{touched_in}
use Rattle.ranges.proofs.OpposedSets.{IsFirstOpposed}
use Rattle.ranges.proofs.met.Meetings.first_opposed.Given as goal

abbrev pub invariant-loop-earlier : goal.invariant-loop-earlier
invariant-loop-earlier l =
    IsFirstOpposed l.way l.array l.cells (touched_in l.self.touched.items) l.earlier l.first
