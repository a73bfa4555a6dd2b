use Rattle.std.proofs.Common.{◌≡◌, ◌++◌, length}
use Rattle.c_grammar.specs.Choices.{all_alone}
use Rattle.c_terminals.specs.Seen.{seen_all}
use Rattle.c_choices.proofs.lifted.put_alone.Given as goal

abbrev pub invariant-tokens : goal.invariant-tokens
invariant-tokens l =
    seen_all l.done.items ++ all_alone (seen_all l.rest) ≡ seen_all l.initial.done.items ++ all_alone (seen_all l.fn.tokens)

abbrev pub decreases-tokens : goal.decreases-tokens
decreases-tokens l = length l.rest
