use Rattle.std.proofs.Common.{◌≡◌, [], length}
use Rattle.c_grammar.specs.Blocks.{bare}
use Rattle.c_grammar.specs.Locals.{hides_in, max_cells}
use Rattle.c_terminals.specs.Ahead.{ahead}
use Rattle.c_terminals.specs.Names.{seen_names}
use Rattle.c_terminals.specs.Seen.{seen_all}
use Rattle.c_locals.proofs.hidden.hides.Given as goal

abbrev pub invariant-tokens : goal.invariant-tokens
invariant-tokens l =
    hides_in l.left (seen_names l.names) l.depth (ahead l.ahead) ≡ hides_in max_cells [] 0 (bare (seen_all l.fn.tokens))

abbrev pub decreases-tokens : goal.decreases-tokens
decreases-tokens l = length (ahead l.ahead)
