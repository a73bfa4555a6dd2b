use Rattle.std.proofs.Common.{◌≡◌, ◌++◌, length, false}
use Rattle.c_grammar.specs.Types.{takes}
use Rattle.c_terminals.specs.Ahead.{ahead}
use Rattle.c_types.specs.Found.{all_taken}
use Rattle.c_types.proofs.functions.takes.Given as goal

abbrev pub invariant-tokens : goal.invariant-tokens
invariant-tokens l =
    all_taken l.done.items ++ takes l.int l.star l.depth (ahead l.ahead) ≡ takes false false 0 (ahead l.rest)

abbrev pub decreases-tokens : goal.decreases-tokens
decreases-tokens l = length (ahead l.ahead)
