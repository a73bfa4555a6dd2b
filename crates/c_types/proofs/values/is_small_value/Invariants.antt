use Rattle.std.proofs.Common.{◌≡◌, length}
use Rattle.c_grammar.specs.Types.{is_small_value}
use Rattle.c_terminals.specs.Ahead.{ahead}
use Rattle.c_types.specs.Found.{seen_found}
use Rattle.c_types.specs.Values.{value_rest}
use Rattle.c_types.proofs.values.is_small_value.Given as goal

abbrev pub invariant-tokens : goal.invariant-tokens
invariant-tokens l =
    value_rest (seen_found l.found) l.value (ahead l.ahead) ≡ is_small_value (seen_found l.found) (ahead l.rest)

abbrev pub decreases-tokens : goal.decreases-tokens
decreases-tokens l = length (ahead l.ahead)
