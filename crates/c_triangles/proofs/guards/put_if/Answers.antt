use Rattle.c_terminals.specs.Seen.{seen_all}
use Rattle.c_triangles.specs.Loops.{seen_loop}
use Rattle.c_triangles.proofs.Passing.{guard_done}
use Rattle.c_triangles.proofs.guards.put_if.Goals as goal

pub returns : goal.returns
returns c =
    guard_done (seen_loop c.args.own) (seen_all c.args.done.now.items) _ _ _ _ _ c.in_ok-put_opening.ensures
    c.in_ok-put_lower.ensures c.in_ok-put_between.ensures c.in_ok-put_upper.ensures c.in_ok-put_ending.ensures
