use Rattle.c_written.proofs.Cutting.{cut_is}
use Rattle.c_written.proofs.extremes.cut.Goals as goal

pub returns : goal.returns
returns c = cut_is c.args.sign c.args.tokens.now c.in_ok-len.len c.in_ok-len.ensures.place
