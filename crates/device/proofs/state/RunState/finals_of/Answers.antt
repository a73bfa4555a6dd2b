use Rattle.device.proofs.Answers.{final_more}
use Rattle.std.proofs.Common.{arith}
use Rattle.std.proofs.lemmas.Grind.{common_steps}
use Rattle.device.proofs.state.RunState.finals_of.Goals as goal

pub loop-array-preserved : goal.loop-array-preserved
loop-array-preserved c =
    final_more c.args.self.now c.args.arrays.now c.loop-array.array-index _ c.loop-array.finals.items _ c.in_ok-values.values
    c.loop-array-test.true c.loop-array.invariant c.in_ok-push.ensures.items c.in_ok-values.ensures

pub returns : goal.returns
returns c = grind (arith, common_steps)
