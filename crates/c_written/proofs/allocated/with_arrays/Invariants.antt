use Rattle.std.proofs.Common.{◌≡◌, length}
use Rattle.c_grammar.specs.Allocations.{all_read, nothing_read}
use Rattle.c_written.specs.Allocations.{with_allocations}
use Rattle.c_terminals.specs.Seen.{seen_all}
use Rattle.c_written.proofs.allocated.with_arrays.Given as goal

abbrev pub invariant-tokens : goal.invariant-tokens
invariant-tokens l = with_allocations l.read (seen_all l.rest) ≡ all_read nothing_read (seen_all l.fn.tokens)

abbrev pub decreases-tokens : goal.decreases-tokens
decreases-tokens l = length l.rest
