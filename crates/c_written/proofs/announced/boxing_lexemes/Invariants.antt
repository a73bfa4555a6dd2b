use Rattle.std.proofs.Common.{◌≡◌, ◌∷◌, ◌++◌, [], length, map}
use Rattle.std.specs.Prelude.{codes}
use Rattle.c_grammar.specs.Lexeme.{Ended, Lexeme, Worded}
use Rattle.c_grammar.specs.LineForms.{all_at}
use Rattle.c_grammar.specs.Boxes.{boxing_lexemes}
use Rattle.c_written.specs.Boxes.{texts}
use Rattle.c_written.specs.Forms.{all_placed}
use Rattle.c_written.proofs.announced.boxing_lexemes.Given as goal

abbrev pub invariant-names : goal.invariant-names
invariant-names l =
    all_placed l.words.items ++ all_at l.column (map Worded (texts l.rest) ++ Ended ∷ [])
    ≡ all_at l.column (boxing_lexemes (texts l.names))

abbrev pub decreases-names : goal.decreases-names
decreases-names l = length l.rest
