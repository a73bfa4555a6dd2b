use Rattle.std.proofs.Common.{refl}
use Rattle.stepper.proofs.NewRuns.{is_new}
use Rattle.stepper.proofs.fine_run.FineRun.new.Goals as goal

pub invariant_of-result : goal.invariant_of-result
invariant_of-result c =
    is_new _ c.in_ok-standing.standing c.requires c.are_numbers.ensures c.in_ok-standing.ensures.number
    c.new-2.ensures.items refl c.in_ok-standing.ensures.start c.in_ok-standing.ensures.capacity
