use Rattle.std.proofs.Common.{◌≡◌, ◌++◌, take}
use Rattle.c_terminals.specs.Ahead.{ahead}
use Rattle.c_terminals.specs.Seen.{seen_all}
use Rattle.c_choices.proofs.statements.next_tokens.Given as goal

abbrev pub invariant-tokens : goal.invariant-tokens
invariant-tokens l =
    seen_all l.tokens.items ++ take l.left (ahead l.ahead) ≡ take l.fn.count (ahead l.fn.start)

abbrev pub decreases-tokens : goal.decreases-tokens
decreases-tokens l = l.left
