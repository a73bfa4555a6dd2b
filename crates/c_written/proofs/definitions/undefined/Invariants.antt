use Rattle.std.proofs.Common.{◌≡◌, [], length}
use Rattle.c_grammar.specs.Constants.{undefined}
use Rattle.c_terminals.specs.Seen.{seen_all}
use Rattle.c_written.specs.Definitions.{with_definitions}
use Rattle.c_written.proofs.definitions.undefined.Given as goal

abbrev pub invariant-tokens : goal.invariant-tokens
invariant-tokens l = with_definitions l.definitions (seen_all l.rest) ≡ undefined [] 0 0 (seen_all l.fn.tokens)

abbrev pub decreases-tokens : goal.decreases-tokens
decreases-tokens l = length l.rest
