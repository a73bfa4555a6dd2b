use Rattle.std.proofs.Common.{◌≡◌, ◌≤◌, ◌+◌, length}
use Rattle.c_grammar.specs.Choices.{first_len}
use Rattle.c_terminals.specs.Seen.{seen_all}
use Rattle.c_choices.proofs.parts.first_len.Given as goal

abbrev pub invariant-tokens : goal.invariant-tokens
invariant-tokens l =
    (first_len l.len l.brackets l.questions (seen_all l.rest) ≡ first_len 0 0 0 (seen_all l.fn.behind)) ×
    ((l.len + length l.rest ≡ length l.fn.behind) × ((l.brackets ≤ l.len) × (l.questions ≤ l.len)))

abbrev pub decreases-tokens : goal.decreases-tokens
decreases-tokens l = length l.rest
