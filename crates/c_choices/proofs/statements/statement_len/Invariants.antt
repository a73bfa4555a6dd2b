use Rattle.std.proofs.Common.{◌≡◌, ◌≤◌, false, length}
use Rattle.c_grammar.specs.Choices.{statement_len}
use Rattle.c_terminals.specs.Ahead.{ahead}
use Rattle.c_choices.proofs.statements.statement_len.Given as goal

abbrev pub invariant-tokens : goal.invariant-tokens
invariant-tokens l =
    (statement_len l.asks l.between l.brackets (ahead l.ahead) ≡ statement_len false 0 0 (ahead l.fn.start)) ×
    ((l.between ≤ 510) × (l.brackets ≤ l.between))

abbrev pub decreases-tokens : goal.decreases-tokens
decreases-tokens l = length (ahead l.ahead)
