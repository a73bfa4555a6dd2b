use Rattle.std.proofs.Common.{◌≡◌, length}
use Rattle.c_grammar.specs.Macros.{is_used}
use Rattle.c_macros.specs.Macros.{all_macros}
use Rattle.c_macros.proofs.macros.is_used.Given as goal

abbrev pub invariant-macros : goal.invariant-macros
invariant-macros l = is_used l.fn.name (all_macros l.rest) ≡ is_used l.fn.name (all_macros l.fn.macros)

abbrev pub decreases-macros : goal.decreases-macros
decreases-macros l = length l.rest
