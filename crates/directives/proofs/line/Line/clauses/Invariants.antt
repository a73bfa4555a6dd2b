use Rattle.std.proofs.Common.{◌≡◌, ◌∷◌, length, map}
use Rattle.c_grammar.specs.LineRules.{AreClauses}
use Rattle.c_grammar.specs.LineMachine.{LineStack, Clauses}
use Rattle.directives.specs.Kinds.{seen_kind}
use Rattle.directives.specs.Cursor.{items}
use Rattle.directives.specs.Reading.{IsSpelled, rest}
use Rattle.directives.specs.Trees.{clause_of, clauses_marks}
use Rattle.directives.proofs.line.Line.clauses.Given as goal

abbrev pub invariant-clauses : goal.invariant-clauses
invariant-clauses l = record {
  read : (s : LineStack) → rest l.fn.self (Clauses (seen_kind l.kind) ∷ s) ≡ rest l.self
      (Clauses (seen_kind l.kind) ∷ s);
  tree : IsSpelled (clauses_marks l.clauses.items) (items l.fn.self) (items l.self);
  takes : AreClauses (seen_kind l.kind) (map clause_of l.clauses.items);
}

abbrev pub decreases-clauses : goal.decreases-clauses
decreases-clauses l = length (items l.self)
