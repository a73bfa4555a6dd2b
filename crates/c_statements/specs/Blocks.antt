-- How blocks begin and end.
use Rattle.std.specs.Prelude.{◌≡◌, ◌<◌, ◌∷◌, ◌++◌, length, drop, ℕ, ◌+◌, Bool, true, if◌then◌else◌, List, Option}
use Rattle.base.specs.declared.fault.ReadCode.{ReadCode as Code}
use Rattle.base.specs.declared.fault.ReadCode.TheVariants.{TooMany, DirectiveInTarget, DirectiveUnderIf}
use Rattle.c_grammar.specs.Rules.{Context}
use Rattle.c_tokens.specs.declared.kind.Sign.TheVariants as sign
use Rattle.base.specs.declared.tree.Expr.{Expr}
use Rattle.c_grammar.specs.Terminal.{Mark}
use Rattle.c_grammar.specs.Grammar.{Term, term, IsRanked}
use Rattle.c_expressions.specs.declared.scope.Scope.{Scope}
use Rattle.c_expressions.specs.Means.{Items, Names, term_size, IsExpr}
use Rattle.c_expressions.specs.Reading.{terminals, kinds}
use Rattle.c_expressions.specs.Scopes.{context_of}

-- before the brace of a body, where a loop's name may wait for it
abbrev pub turned : Option (List ℕ) → Scope → Context
turned y s = record (context_of s 0 0) { turn = y }

-- behind the word if
abbrev pub choosing : Scope → Scope
choosing s = record s { statements = s.statements + 1; choice = true }

-- behind the word else
abbrev pub under_if : Scope → Scope
under_if s = record s { choice = true }

-- the fault of a directive inside a target or under an if, where a limit is met and where a target is around
abbrev pub line_code : Bool → Bool → Code
line_code many within = if many then TooMany else (if within then DirectiveInTarget else DirectiveUnderIf)

-- behind the word if: a condition in brackets
pub record IsConditionRead (names : Names) (before after : Items) (e : Expr) : Type 0 where
  pub value : Term
  pub tokens : terminals before ≡ Mark sign.OpenParen ∷ (kinds (term value) ++ (Mark sign.CloseParen ∷ terminals after))
  pub rest : after ≡ drop (term_size value + 2) before
  pub ranked : IsRanked value
  pub fewer : length after < length before
  pub means : IsExpr names (drop 1 before) value e
