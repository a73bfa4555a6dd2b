use Rattle.std.proofs.Common.{◌≡◌, ◌-◌, drop, length}
use Rattle.c_grammar.specs.LineForms.{clause_of}
use Rattle.c_written.specs.Stack.{held}
use Rattle.c_written.specs.Forms.{line_past}
use Rattle.c_written.proofs.line_forms.clause_of.Given as goal

abbrev pub invariant-tokens : goal.invariant-tokens
invariant-tokens l = clause_of (drop l.k (line_past l.past)) ≡ clause_of (line_past l.past)

abbrev pub decreases-tokens : goal.decreases-tokens
decreases-tokens l = length (held l.past) - l.k
