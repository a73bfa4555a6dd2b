use Rattle.std.proofs.Common.{◌≡◌, [], length}
use Rattle.c_grammar.specs.Functions.{value_at}
use Rattle.c_terminals.specs.Seen.{seen_all}
use Rattle.c_written.proofs.functions.value_at.Given as goal

abbrev pub invariant-tokens : goal.invariant-tokens
invariant-tokens l =
    value_at (seen_all l.front.items) (seen_all l.value.items) (seen_all l.rest)
    ≡ value_at (seen_all l.front.items) [] (seen_all l.fn.tokens)

abbrev pub decreases-tokens : goal.decreases-tokens
decreases-tokens l = length l.rest
