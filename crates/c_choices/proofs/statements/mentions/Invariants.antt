use Rattle.std.proofs.Common.{◌≡◌, length}
use Rattle.c_grammar.specs.Terminal.{Name}
use Rattle.c_grammar.specs.Choices.{mentions}
use Rattle.c_terminals.specs.Seen.{seen_all}
use Rattle.c_choices.proofs.statements.mentions.Given as goal

abbrev pub invariant-tokens : goal.invariant-tokens
invariant-tokens l =
    mentions (Name l.fn.name) (seen_all l.rest) ≡ mentions (Name l.fn.name) (seen_all l.fn.tokens)

abbrev pub decreases-tokens : goal.decreases-tokens
decreases-tokens l = length l.rest
