use Rattle.std.proofs.Common.{◌≡◌, length}
use Rattle.c_grammar.specs.Nesting.{is_only}
use Rattle.c_terminals.specs.Seen.{seen_all}
use Rattle.c_written.proofs.nesting.is_only.Given as goal

abbrev pub invariant-tokens : goal.invariant-tokens
invariant-tokens l = is_only (seen_all l.rest) ≡ is_only (seen_all l.fn.tokens)

abbrev pub decreases-tokens : goal.decreases-tokens
decreases-tokens l = length l.rest
