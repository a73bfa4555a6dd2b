use Rattle.std.proofs.Common.{◌≡◌, length}
use Rattle.c_grammar.specs.Initial.{initialized, no_globals}
use Rattle.c_written.specs.Globals.{with_globals}
use Rattle.c_terminals.specs.Seen.{seen_all}
use Rattle.c_written.proofs.globals.initialized.Given as goal

abbrev pub invariant-tokens : goal.invariant-tokens
invariant-tokens l = with_globals l.globals (seen_all l.rest) ≡ initialized no_globals 0 (seen_all l.fn.tokens)

abbrev pub decreases-tokens : goal.decreases-tokens
decreases-tokens l = length l.rest
