use Rattle.std.proofs.Common.{◌≡◌, ◌∷◌, length, map}
use Rattle.c_grammar.specs.LineRules.{AreModifiers}
use Rattle.c_grammar.specs.LineMachine.{LineStack, MapHead}
use Rattle.directives.specs.Kinds.{seen_kind, seen_modifier}
use Rattle.directives.specs.Cursor.{items}
use Rattle.directives.specs.Reading.{IsSpelled, rest}
use Rattle.directives.specs.Trees.{modifiers_marks}
use Rattle.directives.proofs.line.Line.modifiers.Given as goal

abbrev pub invariant-modifiers : goal.invariant-modifiers
invariant-modifiers l = record {
  read : (s : LineStack) → rest l.fn.self (MapHead (seen_kind l.kind) ∷ s) ≡ rest l.self
      (MapHead (seen_kind l.kind) ∷ s);
  tree : IsSpelled (modifiers_marks l.modifiers.items) (items l.fn.self) (items l.self);
  takes : AreModifiers (seen_kind l.kind) (map seen_modifier l.modifiers.items);
}

abbrev pub decreases-modifiers : goal.decreases-modifiers
decreases-modifiers l = length (items l.self)
