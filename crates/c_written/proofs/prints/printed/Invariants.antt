use Rattle.std.proofs.Common.{◌≡◌, length}
use Rattle.c_grammar.specs.Prints.{printed}
use Rattle.c_terminals.specs.Seen.{seen_all}
use Rattle.c_written.specs.Passes.{with_prints}
use Rattle.c_written.proofs.prints.printed.Given as goal

abbrev pub invariant-tokens : goal.invariant-tokens
invariant-tokens l = with_prints l.prints (seen_all l.rest) ≡ printed 0 (seen_all l.fn.tokens)

abbrev pub decreases-tokens : goal.decreases-tokens
decreases-tokens l = length l.rest
