use Rattle.std.proofs.Common.{◌≡◌, length}
use Rattle.c_grammar.specs.Types.{first_place, retyped}
use Rattle.c_terminals.specs.Seen.{seen_all}
use Rattle.c_types.specs.Found.{seen_found}
use Rattle.c_types.specs.Places.{with_rest}
use Rattle.c_types.proofs.retyping.retyped.Given as goal

abbrev pub invariant-tokens : goal.invariant-tokens
invariant-tokens l =
    with_rest (seen_found l.found) l.retyping (seen_all l.rest)
    ≡ retyped (seen_found l.found) first_place 0 (seen_all l.tokens)

abbrev pub decreases-tokens : goal.decreases-tokens
decreases-tokens l = length l.rest
