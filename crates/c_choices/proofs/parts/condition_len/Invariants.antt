use Rattle.std.proofs.Common.{◌≡◌, ◌≤◌, ◌+◌, [], length}
use Rattle.c_grammar.specs.Changes.{reversed}
use Rattle.c_grammar.specs.Choices.{condition_len}
use Rattle.c_terminals.specs.Seen.{seen_all}
use Rattle.c_choices.proofs.parts.condition_len.Given as goal

abbrev pub invariant-tokens : goal.invariant-tokens
invariant-tokens l =
    (condition_len l.len l.brackets (reversed (seen_all l.rest) []) ≡ condition_len 0 0 (reversed (seen_all l.fn.before) [])) ×
    ((l.len + length l.rest ≡ length l.fn.before) × (l.brackets ≤ l.len))

abbrev pub decreases-tokens : goal.decreases-tokens
decreases-tokens l = length l.rest
