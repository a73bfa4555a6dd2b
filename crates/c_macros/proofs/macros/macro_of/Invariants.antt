use Rattle.std.proofs.Common.{◌≡◌, length}
use Rattle.c_grammar.specs.Macros.{macro_of}
use Rattle.c_macros.specs.Macros.{all_macros}
use Rattle.c_macros.proofs.macros.macro_of.Given as goal

abbrev pub invariant-macros : goal.invariant-macros
invariant-macros l = macro_of (all_macros l.rest) l.fn.name ≡ macro_of (all_macros l.fn.macros) l.fn.name

abbrev pub decreases-macros : goal.decreases-macros
decreases-macros l = length l.rest
