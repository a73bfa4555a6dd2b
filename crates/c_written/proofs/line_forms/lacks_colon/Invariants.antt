use Rattle.std.proofs.Common.{◌≡◌, ◌-◌, drop, length}
use Rattle.c_grammar.specs.LineForms.{lacks_colon}
use Rattle.c_written.specs.Stack.{held}
use Rattle.c_written.specs.Forms.{line_past}
use Rattle.c_written.proofs.line_forms.lacks_colon.Given as goal

abbrev pub invariant-tokens : goal.invariant-tokens
invariant-tokens l = lacks_colon (drop l.k (line_past l.past)) ≡ lacks_colon (drop l.fn.behind (line_past l.past))

abbrev pub decreases-tokens : goal.decreases-tokens
decreases-tokens l = length (held l.past) - l.k
