use Rattle.c_grammar.specs.Constants.{undefined}
use Rattle.c_written.specs.Definitions.{names_of}
use Rattle.c_terminals.proofs.Lists.{written_all}
use Rattle.c_written.proofs.Undefining.{undefined_end}
use Rattle.c_written.proofs.definitions.undefined.Goals as goal

pub returns : goal.returns
returns c =
    let d = c.tokens.definitions in
    written_all _ _ (undefined (names_of d) d.depth d.left) _ c.in_default.len_below (undefined_end _ _ _) c.tokens.invariant
