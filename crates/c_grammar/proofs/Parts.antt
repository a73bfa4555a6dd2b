-- Parts of a text that stand behind a token which tells them.
use Rattle.std.proofs.Common.{◌≡◌, ℕ, List, [], ◌∷◌, ◌++◌, Option, Some, None, refl}
use Rattle.c_tokens.specs.declared.kind.Sign.TheVariants as sign
use Rattle.base.specs.declared.fault.ReadCode.TheVariants.{NoBody}
use Rattle.c_grammar.specs.Lexeme.{Lexeme, For, Else}
use Rattle.c_grammar.specs.Terminal.{Mark, Num, Fixed, Line}
use Rattle.c_grammar.specs.Lines.{depth_of}
use Rattle.c_grammar.specs.Grammar.{Plain, MakesArray, MakesScalar, Length, Opens, Otherwise, Over, for, Slots, mark, opening, closing, Term, term, Source, source, Head, Stmt, OverBlock, OverLoop, deeper, stmt, nest_slots, Stmts, stmts, body_opening, body_closing, end_mark}

-- a bracket with its index, or nothing
abbrev pub index : Option Term → Slots
index None = []
index (Some i) = opening sign.OpenBracket ∷ (term i ++ closing sign.CloseBracket ∷ [])

-- a block, or a loop with that head, the outermost of a nest of d
abbrev pub held : ℕ → Option Head → Stmts → Slots
held d None b = (Mark sign.OpenBrace, (Some NoBody, Opens)) ∷ (stmts b ++ body_closing ∷ [])
held d (Some h) b = (Fixed For, (Some NoBody, Plain)) ∷ nest_slots h b (deeper d)

-- the statement that a line and what follows it are
unfoldable pub over : List Lexeme → Option Head → Stmts → Stmt
over l None b = OverBlock l b
over l (Some h) b = OverLoop l h b

pub over_slots : (l : List Lexeme) (o : Option Head) (b : Stmts) → stmt (over l o b) ≡ (Line l, for Over) ∷ held (depth_of l) o b
unfolding over
over_slots l None b = refl
over_slots l (Some h) b = refl

-- the second branch of an if, or nothing
abbrev pub branch : Option Stmts → Slots
branch None = []
branch (Some b) = (Fixed Else, for Otherwise) ∷ body_opening ∷ (stmts b ++ body_closing ∷ [])

-- an assignment to a scalar, or to the cell at an index
abbrev pub assigned : Option Term → Source → Slots
assigned None v = mark sign.Equal ∷ (source v ++ end_mark ∷ [])
assigned (Some i) v = mark sign.OpenBracket ∷ (term i ++ (mark sign.CloseBracket ∷ mark sign.Equal ∷ (source v ++ end_mark ∷ [])))

-- a scalar, or an array of that many cells
abbrev pub made : Option (Option ℕ) → Slots
made None = (Mark sign.Semicolon, for MakesScalar) ∷ []
made (Some n) = (Mark sign.OpenBracket, for MakesArray) ∷ (Num n, for Length) ∷ mark sign.CloseBracket ∷ end_mark ∷ []
