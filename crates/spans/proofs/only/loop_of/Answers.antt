use Rattle.spans.proofs.Onlies.{is_loop}
use Rattle.spans.proofs.only.loop_of.Goals as goal

pub returns-in-Loop : goal.returns-in-Loop
returns-in-Loop c =
    is_loop c.args.s.now c.in-Loop.bounds c.in-Loop.body c.deref.result.now c.in-Loop.is c.deref.ensures.value
