use Rattle.std.proofs.Common.{arith}
use Rattle.std.proofs.lemmas.Grind.{common_steps}
use Rattle.stepper.proofs.Rows.{final_more}
use Rattle.stepper.proofs.marked.finals_of.Goals as goal

pub arrays-preserved : goal.arrays-preserved
arrays-preserved c =
    final_more c.args.host.now c.args.arrays.now c.arrays.array-index _ c.arrays.finals.items _ c.in_ok-values.values
    c.arrays-test.true c.arrays.invariant c.in_ok-push.ensures.items c.in_ok-values.ensures

pub returns : goal.returns
returns c = grind (arith, common_steps)
