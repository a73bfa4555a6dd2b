use Rattle.c_terminals.specs.Seen.{seen_all}
use Rattle.c_descents.specs.Loops.{seen_loop}
use Rattle.c_descents.proofs.Heading.{head_done}
use Rattle.c_descents.proofs.loops.Loop.put_head.Goals as goal

pub returns : goal.returns
returns c =
    head_done (seen_loop c.args.self.now) (seen_all c.args.done.now.items) _ _ c.in_ok-put_front.ensures
    c.in_ok-put_back.ensures
