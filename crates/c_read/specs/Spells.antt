-- Which program a source spells.
use Rattle.std.specs.Prelude.{◌≡◌, ℕ, ◌+◌, List, [], ◌∷◌, ◌++◌, length, map, drop}
use Rattle.base.specs.declared.tree.Program.{Program}
use Rattle.base.specs.declared.fault.TextFault.{TextFault}
use Rattle.base.specs.declared.fault.ReadFault.{ReadFault}
use Rattle.base.specs.declared.fault.ReadFault.TheVariants as read
use Rattle.c_tokens.specs.declared.kind.Sign.TheVariants as sign
use Rattle.c_grammar.specs.Grammar.{Text, boxes_slots, globals, slots, IsText}
use Rattle.c_grammar.specs.Lexeme.{Int, Main, Void}
use Rattle.c_source.specs.Source.{items_of, Spells as SpellsText}
use Rattle.c_grammar.specs.Terminal.{Terminal, Fixed, Mark}
use Rattle.c_expressions.specs.Means.{Items}
use Rattle.c_expressions.specs.Reading.{terminals, kinds}
use Rattle.c_statements.specs.Statements.{declared_in}
use Rattle.c_read.specs.Globals.{arrays_in, boxes_in, boxes_of_text, entry_of, front_of_text}
use Rattle.c_read.specs.Parts.{AreParts}

-- the words of main, up to its brace
abbrev pub main_tokens : List Terminal
main_tokens = Fixed Int ∷ Fixed Main ∷ Mark sign.OpenParen ∷ Fixed Void ∷ Mark sign.CloseParen ∷ Mark sign.OpenBrace ∷ []

-- how many tokens stand before the statements of main
abbrev pub front_size : Text → ℕ
front_size t = length (globals t.globals) + length (boxes_slots t.boxes) + 6

-- the program that a text means, where these tokens spell it
pub record IsProgram (is : Items) (t : Text) (p : Program) : Type 0 where
  pub arrays : map entry_of p.arrays.entries ≡ arrays_in t.globals ++ boxes_in (boxes_of_text t)
  -- the scalars of all blocks are counted
  pub scalars : p.scalars ≡ (front_of_text t).env.scalars + declared_in t.body
  pub body : AreParts (front_of_text t).env (drop (front_size t) is) t.body p.body.items

-- these tokens are those of a text, which means the program
pub record IsTextRead (is : Items) (p : Program) : Type 0 where
  pub text : Text
  pub tokens : terminals is ≡ kinds (slots text)
  pub is_text : IsText text
  pub means : IsProgram is text p

-- the bytes spell a text that keeps all rules, and the program is what the text means
pub record Spells (bytes : List ℕ) (p : Program) : Type 0 where
  pub text : Text
  pub spelled : SpellsText bytes text
  pub means : IsProgram (items_of bytes) text p

-- a fact of the fault of a text, unless memory ran out
abbrev pub OnText : (TextFault → Type 0) → ReadFault → Type 0
OnText fact (read.Text f) = fact f
OnText fact read.OutOfMemory = Unit {0}
