use Rattle.std.proofs.Common.{◌≡◌, ◌≤◌, ◌+◌, length}
use Rattle.c_grammar.specs.Loops.{is_joined}
use Rattle.c_terminals.specs.Seen.{seen_all}
use Rattle.c_loops.proofs.bounds.is_joined.Given as goal

abbrev pub invariant-tokens : goal.invariant-tokens
invariant-tokens l =
    (is_joined l.brackets (seen_all l.rest) ≡ is_joined 0 (seen_all l.fn.tokens)) ×
    (l.brackets + length l.rest ≤ length l.fn.tokens)

abbrev pub decreases-tokens : goal.decreases-tokens
decreases-tokens l = length l.rest
