use Rattle.std.proofs.Common.{◌≡◌, length}
use Rattle.c_grammar.specs.Allocations.{nothing_read}
use Rattle.c_grammar.specs.MainArrays.{all_lifted}
use Rattle.c_arrays.specs.Arrays.{with_arrays}
use Rattle.c_terminals.specs.Seen.{seen_all}
use Rattle.c_arrays.proofs.arrays.lifted.Given as goal

abbrev pub invariant-tokens : goal.invariant-tokens
invariant-tokens l = with_arrays l.read (seen_all l.rest) ≡ all_lifted nothing_read (seen_all l.fn.tokens)

abbrev pub decreases-tokens : goal.decreases-tokens
decreases-tokens l = length l.rest
