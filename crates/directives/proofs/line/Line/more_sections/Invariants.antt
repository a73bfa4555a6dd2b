use Rattle.std.proofs.Common.{◌≡◌, ◌∷◌, length}
use Rattle.c_tokens.specs.declared.kind.Sign.TheVariants as sign
use Rattle.c_grammar.specs.LineMachine.{LineStack, AfterItem}
use Rattle.directives.specs.Known.{seen_act}
use Rattle.directives.specs.Cursor.{items}
use Rattle.directives.specs.Reading.{IsSpelled, rest}
use Rattle.directives.specs.Trees.{section_marks, each_behind}
use Rattle.directives.proofs.line.Line.more_sections.Given as goal

abbrev pub invariant-sections : goal.invariant-sections
invariant-sections l = record {
  read : (s : LineStack) → rest l.fn.self (AfterItem (seen_act l.act) ∷ s) ≡ rest l.self (AfterItem (seen_act l.act) ∷ s);
  tree : IsSpelled (each_behind sign.Comma section_marks l.more.items) (items l.fn.self) (items l.self);
}

abbrev pub decreases-sections : goal.decreases-sections
decreases-sections l = length (items l.self)
