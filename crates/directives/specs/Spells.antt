-- Which directive a line spells, and which fault is its first.
use Rattle.std.specs.Prelude.{◌≡◌, ℕ, List, [], map, Option, Some, None}
use Rattle.base.specs.declared.fault.ReadCode.{ReadCode as Code}
use Rattle.c_grammar.specs.Lexeme.{Lexeme, Placed}
use Rattle.c_grammar.specs.Lines.{line_fault}
use Rattle.c_grammar.specs.Source.{nth}
use Rattle.c_grammar.specs.Texts.{Item, IsFirst, Spelled}
use Rattle.c_grammar.specs.LineRules.{line_grammar}
use Rattle.directives.specs.declared.tree.Directive.{Directive}
use Rattle.directives.specs.declared.fault.LineFault.{LineFault}
use Rattle.directives.specs.declared.fault.DirectiveFault.{DirectiveFault}
use Rattle.directives.specs.declared.fault.DirectiveFault.TheVariants as fault
use Rattle.directives.specs.Trees.{text_of, line_marks}
use Rattle.directives.specs.Cursor.{line_items}
use Rattle.directives.specs.Reading.{fault_at, IsSpelled}

-- the line spells the directive's tree, which keeps the rules; and each name of the
-- directive has the column of its token
pub record SpellsLine (ps : List Placed) (d : Directive) : Type 0 where
  pub spelled : Spelled line_grammar (line_items ps) (text_of d)
  pub placed : IsSpelled (line_marks d) (line_items ps) []

-- the token at the fault's column breaks the rule of its code; no token before breaks a rule, and that one breaks none
-- of a lower code
pub record IsFirstLineFault (ps : List Placed) (f : LineFault) : Type 0 where
  pub item : Item Lexeme
  pub place : f ≡ fault_at item f.code
  pub first : IsFirst line_grammar (line_items ps) item f.code

abbrev pub kinds_of : List Placed → List Lexeme
kinds_of ps = map (λ p. p.lexeme) ps

abbrev pub columns_of : List Placed → List ℕ
columns_of ps = map (λ p. p.column) ps

-- a fault by the number of its token, with that token's column
abbrev pub at_columns : List ℕ → Option (ℕ × Code) → Option LineFault
at_columns columns None = None
at_columns columns (Some f) = Some (record { code = f.1; column = nth columns f.0 })

-- the fault of a line in a source, if it has one
unfoldable pub line_answer : List Placed → Option LineFault
line_answer ps =
    at_columns (columns_of ps) (line_fault (kinds_of ps))

-- a fact of the fault of a line, unless memory ran out
abbrev pub OnLine : (LineFault → Type 0) → DirectiveFault → Type 0
OnLine fact (fault.Line f) = fact f
OnLine fact fault.OutOfMemory = Unit {0}
