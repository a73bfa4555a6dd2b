use Rattle.std.proofs.Common.{◌≡◌, length}
use Rattle.c_grammar.specs.LineForms.{needs_work}
use Rattle.c_written.specs.Forms.{all_placed}
use Rattle.c_written.proofs.line_forms.needs_work.Given as goal

abbrev pub invariant-tokens : goal.invariant-tokens
invariant-tokens l = needs_work l.left (all_placed l.rest) ≡ needs_work l.fn.count (all_placed l.fn.rest)

abbrev pub decreases-tokens : goal.decreases-tokens
decreases-tokens l = length l.rest
