use Rattle.std.proofs.Common.{◌≡◌, ◌≤◌, length}
use Rattle.mend.specs.Bare.{start_before}
use Rattle.mend.proofs.bare.line_start.Given as goal

abbrev pub decreases-back : goal.decreases-back
decreases-back l = l.start

abbrev pub invariant-back : goal.invariant-back
invariant-back l = (l.start ≤ length l.bytes) × (start_before l.bytes l.start ≡ start_before l.bytes l.fn.place)
