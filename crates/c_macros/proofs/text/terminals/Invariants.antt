use Rattle.std.proofs.Common.{◌≡◌, ◌++◌, length, map}
use Rattle.c_terminals.specs.Seen.{seen_all, seen_terminal}
use Rattle.c_macros.proofs.text.terminals.Given as goal

abbrev pub invariant-tokens : goal.invariant-tokens
invariant-tokens l =
    map seen_terminal l.terminals.items ++ map (λ i. i.terminal) (seen_all l.rest) ≡
    map (λ i. i.terminal) (seen_all l.fn.tokens)

abbrev pub decreases-tokens : goal.decreases-tokens
decreases-tokens l = length l.rest
