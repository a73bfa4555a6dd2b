use Rattle.std.proofs.Common.{false, refl}
use Rattle.ranges.proofs.LeastRuns.{least_more, no_run}
use Rattle.ranges.proofs.reached.no_reach.Goals as goal

pub arrays-preserved : goal.arrays-preserved
arrays-preserved c =
    least_more (λ d. false) c.arrays.a c.arrays.runs.items c.push.new.self.items _ refl (no_run _ refl)
    c.in_ok-push.ensures.items c.arrays.invariant
