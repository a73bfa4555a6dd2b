use Rattle.std.proofs.Common.{◌≡◌, ◌+◌, ◌≤◌, length}
use Rattle.c_grammar.specs.Descents.{are_parts}
use Rattle.c_terminals.specs.Seen.{seen_all}
use Rattle.c_descents.proofs.bounds.are_parts.Given as goal

abbrev pub invariant-tokens : goal.invariant-tokens
invariant-tokens l =
    (are_parts l.name l.open (seen_all l.rest) ≡ are_parts l.fn.name 0 (seen_all l.fn.tokens)) ×
    (l.open + length l.rest ≤ length l.fn.tokens)

abbrev pub decreases-tokens : goal.decreases-tokens
decreases-tokens l = length l.rest
