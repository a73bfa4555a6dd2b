use Rattle.std.proofs.Common.{◌-◌, ap₂, subst}
use Rattle.bits.specs.Sets.{has}
use Rattle.ranges.specs.Reach.{IsFirstOr}
use Rattle.ranges.proofs.LeastRuns.{least_run}
use Rattle.ranges.proofs.reached.run_of.Goals as goal

pub returns-clause-least : goal.returns-clause-least
returns-clause-least c =
    let read = has c.args.read.now in
    let write = has c.args.write.now in
    let first = c.first_or.result in
    let second = c.first_or-2.result in
    least_run read write c.end.result c.end-2.result first second _ c.end.ensures c.end-2.ensures
    (subst (λ n. IsFirstOr read n first) c.max-end.ensures c.first_or.ensures)
    (subst (λ n. IsFirstOr write n second) c.max-end.ensures c.first_or-2.ensures) c.min-first.ensures
    (ap₂ (λ m n. m - n) c.max-end.ensures c.min-first.ensures)
