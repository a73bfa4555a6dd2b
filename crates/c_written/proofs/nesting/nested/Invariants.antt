use Rattle.std.proofs.Common.{◌≡◌, ◌++◌, length}
use Rattle.c_grammar.specs.Nesting.{nested, nested_on}
use Rattle.c_terminals.specs.Held.{seen_written, written_all}
use Rattle.c_terminals.specs.Seen.{seen_all}
use Rattle.c_written.proofs.nesting.nested.Given as goal

abbrev pub invariant-tokens : goal.invariant-tokens
invariant-tokens l =
    written_all l.done.items ++ nested_on (seen_written l.held) (seen_all l.rest) ≡ nested (seen_all l.fn.tokens)

abbrev pub decreases-tokens : goal.decreases-tokens
decreases-tokens l = length l.rest
