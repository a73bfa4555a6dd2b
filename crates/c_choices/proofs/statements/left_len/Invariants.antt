use Rattle.std.proofs.Common.{◌≡◌, ◌≤◌, ◌+◌, length}
use Rattle.c_grammar.specs.Choices.{left_len}
use Rattle.c_terminals.specs.Seen.{seen_all}
use Rattle.c_choices.proofs.statements.left_len.Given as goal

abbrev pub invariant-tokens : goal.invariant-tokens
invariant-tokens l =
    (left_len l.len l.brackets (seen_all l.rest) ≡ left_len 0 0 (seen_all l.fn.tokens)) ×
    (l.brackets + length l.rest ≤ length l.fn.tokens) × (l.len + length l.rest ≡ length l.fn.tokens)

abbrev pub decreases-tokens : goal.decreases-tokens
decreases-tokens l = length l.rest
