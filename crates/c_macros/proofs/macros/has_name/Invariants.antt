use Rattle.std.proofs.Common.{◌≡◌, length, map}
use Rattle.c_grammar.specs.Macros.{has_name}
use Rattle.c_terminals.specs.Seen.{seen_terminal}
use Rattle.c_macros.proofs.macros.has_name.Given as goal

abbrev pub invariant-terminals : goal.invariant-terminals
invariant-terminals l =
    has_name l.fn.name (map seen_terminal l.rest) ≡ has_name l.fn.name (map seen_terminal l.fn.terminals)

abbrev pub decreases-terminals : goal.decreases-terminals
decreases-terminals l = length l.rest
