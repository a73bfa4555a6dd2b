use Rattle.std.proofs.Common.{◌≡◌, length}
use Rattle.c_grammar.specs.Choices.{chosen}
use Rattle.c_choices.specs.State.{with_choices}
use Rattle.c_terminals.specs.Seen.{seen_all}
use Rattle.c_choices.proofs.choices.chosen.Given as goal

abbrev pub invariant-tokens : goal.invariant-tokens
invariant-tokens l =
    with_choices l.choices (seen_all l.rest) ≡ chosen (seen_all l.fn.tokens)

abbrev pub decreases-tokens : goal.decreases-tokens
decreases-tokens l = length l.rest
