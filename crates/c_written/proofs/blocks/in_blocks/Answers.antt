use Rattle.c_grammar.specs.Blocks.{in_blocks}
use Rattle.c_written.specs.Passes.{reading}
use Rattle.c_terminals.proofs.Lists.{written_all}
use Rattle.c_written.proofs.Blocking.{blocks_end}
use Rattle.c_written.proofs.blocks.in_blocks.Goals as goal

pub returns : goal.returns
returns c =
    written_all _ _ (in_blocks (reading c.tokens.blocks)) _ c.in_default.len_below (blocks_end _) c.tokens.invariant.done
