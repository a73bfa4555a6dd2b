use Rattle.std.proofs.Common.{◌≡◌, ◌≤◌, ◌+◌, length}
use Rattle.c_grammar.specs.Choices.{second_len}
use Rattle.c_terminals.specs.Seen.{seen_all}
use Rattle.c_choices.proofs.parts.second_len.Given as goal

abbrev pub invariant-tokens : goal.invariant-tokens
invariant-tokens l =
    (second_len l.len l.brackets (seen_all l.rest) ≡ second_len 0 0 (seen_all l.fn.behind)) ×
    ((l.len + length l.rest ≡ length l.fn.behind) × (l.brackets ≤ l.len))

abbrev pub decreases-tokens : goal.decreases-tokens
decreases-tokens l = length l.rest
