-- Whether the words of a line that begins with # are pragma omp.
use Rattle.std.specs.Prelude.{ℕ, if◌then◌else◌, List, [], ◌∷◌, Option, Some, None, codes}
use Rattle.base.specs.declared.fault.ReadCode.{ReadCode as Code}
use Rattle.base.specs.declared.fault.ReadCode.TheVariants.{UnknownDirective}
use Rattle.c_grammar.specs.Lexeme.{Lexeme, Worded, Placed, same}
use Rattle.c_grammar.specs.LineMachine.{line_first_wrong}
use Rattle.c_grammar.specs.Code.{lower_code}
use Rattle.c_expressions.specs.declared.line.Misfit.{Misfit}

abbrev pub seen_misfit : Misfit → ℕ × Code
seen_misfit f = (f.column, f.code)

abbrev pub pragma : Lexeme
pragma = Worded (codes "pragma")

abbrev pub omp : Lexeme
omp = Worded (codes "omp")

-- the fault at a token of a line that stands in the place of another word
abbrev pub misfit_on : Placed → ℕ × Code
misfit_on p = (p.column, lower_code (line_first_wrong p.lexeme) UnknownDirective)

abbrev pub second_misfit : List Placed → Option (ℕ × Code)
second_misfit [] = None
second_misfit (p ∷ ps) = if same omp p.lexeme then None else Some (misfit_on p)

-- the fault of the first token of a line that differs from pragma omp, if one does
unfoldable pub words_misfit : List Placed → Option (ℕ × Code)
words_misfit [] = None
words_misfit (p ∷ ps) = if same pragma p.lexeme then second_misfit ps else Some (misfit_on p)
