use Rattle.std.proofs.Common.{ap, map, sym, List}
use Rattle.c_grammar.specs.Lexeme.{Placed}
use Rattle.directives.specs.Cursor.{item_of}
use Rattle.directives.proofs.Moves.{took_passes}
use Rattle.directives.proofs.line.Line.enter.Goals as goal

pub returns-clause-read : goal.returns-clause-read
returns-clause-read c = λ m s.
    took_passes c.args.self.now c.args.act m s _ _ (sym c.in_default.ensures) c.in_ok-note.ensures
    (ap (λ (ps : List Placed). map item_of ps) c.next-self.ensures.next)
