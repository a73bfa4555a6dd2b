use Rattle.std.proofs.Common.{◌≡◌, length}
use Rattle.c_grammar.specs.Pointers.{begin, pointed_in}
use Rattle.c_written.specs.Pointers.{seen_found, with_pointed}
use Rattle.c_terminals.specs.Seen.{seen_all}
use Rattle.c_written.proofs.pointed.with_arrays.Given as goal

abbrev pub invariant-tokens : goal.invariant-tokens
invariant-tokens l =
    with_pointed (seen_found l.found) l.arrays (seen_all l.rest) ≡ pointed_in (seen_found l.found) begin 0 (seen_all l.fn.tokens)

abbrev pub decreases-tokens : goal.decreases-tokens
decreases-tokens l = length l.rest
