use Rattle.c_written.proofs.Fitting.{own_on}
use Rattle.c_written.proofs.nesting.is_own.Goals as goal

pub returns : goal.returns
returns c =
    own_on c.args.tokens.now c.name_len-len.result c.are_own.result c.name_len-len.ensures.value c.are_own.ensures
