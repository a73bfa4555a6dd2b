use Rattle.std.proofs.Common.{◌≡◌, length, true}
use Rattle.c_grammar.specs.Types.{passes}
use Rattle.c_terminals.specs.Ahead.{ahead}
use Rattle.c_types.specs.Found.{all_taken, seen_found}
use Rattle.c_types.proofs.checks.passes.Given as goal

abbrev pub invariant-tokens : goal.invariant-tokens
invariant-tokens l =
    passes (seen_found l.found) (all_taken l.takes) l.begins l.depth (ahead l.ahead)
    ≡ passes (seen_found l.found) (all_taken l.fn.takes) true 0 (ahead l.rest)

abbrev pub decreases-tokens : goal.decreases-tokens
decreases-tokens l = length (ahead l.ahead)
