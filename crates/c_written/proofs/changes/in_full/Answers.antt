use Rattle.c_grammar.specs.Changes.{in_full}
use Rattle.c_written.specs.Changes.{state_of}
use Rattle.c_terminals.proofs.Lists.{written_all}
use Rattle.c_written.proofs.Passing.{changes_end}
use Rattle.c_written.proofs.changes.in_full.Goals as goal

pub returns : goal.returns
returns c =
    written_all _ _ (in_full (state_of c.tokens.changes) c.tokens.changes.left) _ c.in_default.len_below (changes_end _ _) c.tokens.invariant
