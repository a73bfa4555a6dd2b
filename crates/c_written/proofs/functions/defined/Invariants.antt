use Rattle.std.proofs.Common.{◌≡◌, length}
use Rattle.c_grammar.specs.Functions.{Outside, defined, nothing_known}
use Rattle.std.specs.Prelude.{true}
use Rattle.c_written.specs.Functions.{with_source}
use Rattle.c_terminals.specs.Seen.{seen_all}
use Rattle.c_written.proofs.functions.defined.Given as goal

abbrev pub invariant-tokens : goal.invariant-tokens
invariant-tokens l = with_source l.source l.place (seen_all l.rest) ≡ defined nothing_known (Outside true) (seen_all l.fn.tokens)

abbrev pub decreases-tokens : goal.decreases-tokens
decreases-tokens l = length l.rest
