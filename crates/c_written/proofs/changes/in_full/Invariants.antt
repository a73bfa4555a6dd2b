use Rattle.std.proofs.Common.{◌≡◌, length}
use Rattle.c_grammar.specs.Changes.{begin, in_full}
use Rattle.c_terminals.specs.Seen.{seen_all}
use Rattle.c_written.specs.Changes.{with_changes}
use Rattle.c_written.proofs.changes.in_full.Given as goal

abbrev pub invariant-tokens : goal.invariant-tokens
invariant-tokens l = with_changes l.changes (seen_all l.rest) ≡ in_full begin 0 (seen_all l.fn.tokens)

abbrev pub decreases-tokens : goal.decreases-tokens
decreases-tokens l = length l.rest
