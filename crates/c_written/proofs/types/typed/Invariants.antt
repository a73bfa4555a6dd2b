use Rattle.std.proofs.Common.{◌≡◌, length}
use Rattle.c_grammar.specs.Blocks.{typed}
use Rattle.c_terminals.specs.Seen.{seen_all}
use Rattle.c_written.specs.Passes.{with_types}
use Rattle.c_written.proofs.types.typed.Given as goal

abbrev pub invariant-tokens : goal.invariant-tokens
invariant-tokens l = with_types l.types (seen_all l.rest) ≡ typed 0 (seen_all l.fn.tokens)

abbrev pub decreases-tokens : goal.decreases-tokens
decreases-tokens l = length l.rest
