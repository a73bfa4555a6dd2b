use Rattle.c_terminals.specs.Seen.{seen, seen_all}
use Rattle.c_loops.proofs.Passing.{head_done}
use Rattle.c_loops.proofs.loops.put_head.Goals as goal

pub returns : goal.returns
returns c =
    head_done (seen c.args.token) c.args.name.now c.args.most (seen_all c.args.done.now.items) _ _ _ c.in_ok-put_first.ensures
    c.in_ok-put_test.ensures c.in_ok-put_step.ensures
