use Rattle.std.proofs.Common.{◌≡◌, ◌++◌, length, map}
use Rattle.c_grammar.specs.Descents.{lexeme_of}
use Rattle.c_grammar.specs.LineForms.{all_at}
use Rattle.c_descents.specs.Lines.{all_placed}
use Rattle.c_descents.specs.Parts.{all_parts}
use Rattle.c_descents.proofs.lines.put_parts.Given as goal

abbrev pub invariant-parts : goal.invariant-parts
invariant-parts l =
    all_placed l.done.items ++ all_at l.column (map lexeme_of (all_parts l.rest))
    ≡ all_placed l.fn.done.items ++ all_at l.fn.column (map lexeme_of (all_parts l.fn.parts))

abbrev pub decreases-parts : goal.decreases-parts
decreases-parts l = length l.rest
