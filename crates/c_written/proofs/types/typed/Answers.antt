use Rattle.c_grammar.specs.Blocks.{typed}
use Rattle.c_terminals.proofs.Lists.{written_all}
use Rattle.c_written.proofs.Typing.{typed_end}
use Rattle.c_written.proofs.types.typed.Goals as goal

pub returns : goal.returns
returns c = written_all _ _ (typed c.tokens.types.left) _ c.in_default.len_below (typed_end _) c.tokens.invariant
