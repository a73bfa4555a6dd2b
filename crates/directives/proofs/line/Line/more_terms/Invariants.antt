use Rattle.std.proofs.Common.{◌≡◌, ◌∷◌, length, Bool}
use Rattle.c_grammar.specs.LineGrammar.{LineAct}
use Rattle.c_grammar.specs.LineMachine.{LineStack, AfterTerm}
use Rattle.directives.specs.Cursor.{items}
use Rattle.directives.specs.Reading.{IsSpelled, rest}
use Rattle.directives.specs.Trees.{terms_marks}
use Rattle.directives.proofs.line.Line.more_terms.Given as goal

abbrev pub invariant-terms : goal.invariant-terms
invariant-terms l = record {
  read : (second : Bool) (act : LineAct) (s : LineStack) →
      rest l.fn.self (AfterTerm second act ∷ s) ≡ rest l.self (AfterTerm second act ∷ s);
  tree : IsSpelled (terms_marks l.more.items) (items l.fn.self) (items l.self);
}

abbrev pub decreases-terms : goal.decreases-terms
decreases-terms l = length (items l.self)
