-- What was read: a term of the grammar, the tokens that spell it, and the expression that it means.
use Rattle.std.specs.Prelude.{◌≡◌, ℕ, ◌+◌, ◌<◌, ◌≤◌, length, drop, ◌∷◌, ◌++◌}
use Rattle.c_tokens.specs.declared.kind.Sign.{Sign}
use Rattle.c_tokens.specs.declared.kind.Sign.TheVariants as sign
use Rattle.base.specs.declared.tree.ArrayId.{ArrayId}
use Rattle.base.specs.declared.tree.Place.{Place}
use Rattle.base.specs.declared.tree.UnaryOp.{UnaryOp}
use Rattle.base.specs.declared.tree.ShiftOp.{ShiftOp}
use Rattle.base.specs.declared.tree.ShiftCount.{ShiftCount}
use Rattle.base.specs.declared.tree.DivideOp.{DivideOp}
use Rattle.base.specs.declared.tree.Divisor.{Divisor}
use Rattle.base.specs.declared.tree.Expr.{Expr}
use Rattle.base.specs.declared.tree.Expr.TheVariants as expr
use Rattle.c_grammar.specs.Terminal.{Mark}
use Rattle.c_grammar.specs.Texts.{next_of}
use Rattle.c_grammar.specs.Grammar.{Term, Operator, LogicOr, LogicAnd, term, level_of, IsRanked}
use Rattle.c_grammar.specs.Rules.{source_grammar}
use Rattle.c_tokens.specs.declared.limits.TheConstants.{MAX_TOKENS}
use Rattle.c_expressions.specs.declared.spend.Tally.{Tally}
use Rattle.c_expressions.specs.Means.{Items, Names, operator_of, term_size, IsExpr}
use Rattle.c_expressions.specs.Reading.{terminals, kinds}
use Rattle.c_expressions.specs.Signs.{Stops}

-- ---- one step of a tree

abbrev pub IsUnaryOf : UnaryOp → Expr → Expr → Type 0
IsUnaryOf o i (expr.Unary' u p e) = (u ≡ o) × (e ≡ i)
IsUnaryOf o i _ = ⊥

abbrev pub IsCellOf : ArrayId → Place → Expr → Expr → Type 0
IsCellOf id place i (expr.Cell' a at p e) = (a ≡ id) × (at ≡ place) × (e ≡ i)
IsCellOf id place i _ = ⊥

abbrev pub IsJoinOf : Operator → Expr → Expr → Expr → Type 0
IsJoinOf o l r (expr.Or' p e q f) = (o ≡ LogicOr) × (e ≡ l) × (f ≡ r)
IsJoinOf o l r (expr.And' p e q f) = (o ≡ LogicAnd) × (e ≡ l) × (f ≡ r)
IsJoinOf o l r (expr.Binary' b p e q f) = (o ≡ operator_of b) × (e ≡ l) × (f ≡ r)
IsJoinOf o l r _ = ⊥

abbrev pub IsShiftOf : ShiftOp → Expr → ShiftCount → Expr → Type 0
IsShiftOf o l n (expr.Shift' s p e count) = (s ≡ o) × (e ≡ l) × (count ≡ n)
IsShiftOf o l n _ = ⊥

abbrev pub IsDivisionOf : DivideOp → Expr → Divisor → Expr → Type 0
IsDivisionOf o l n (expr.Divide' d p e divisor) = (d ≡ o) × (e ≡ l) × (divisor ≡ n)
IsDivisionOf o l n _ = ⊥

-- one token more of an expression is read
pub record IsOneMore (old new : Tally) : Type 0 where
  pub few : old.tokens < MAX_TOKENS
  pub count : new.tokens ≡ old.tokens + 1
  pub top : new.top ≡ old.top

-- some tokens more of an expression are read
pub record IsFurther (old new : Tally) : Type 0 where
  pub more : old.tokens < new.tokens
  pub few : new.tokens ≤ MAX_TOKENS

-- ---- what was read

-- these tokens are those of a term and then these; the term binds at least as tight as least, and means the expression;
-- behind it an operator of a level up to top binds no tighter than the term
pub record IsRead (names : Names) (least top : ℕ) (before after : Items) (e : Expr) : Type 0 where
  pub tree : Term
  pub tokens : terminals before ≡ kinds (term tree) ++ terminals after
  pub rest : after ≡ drop (term_size tree) before
  pub ranked : IsRanked tree
  pub tight : least ≤ level_of tree
  pub stops : Stops (level_of tree + 1) top (next_of source_grammar after)
  pub fewer : length after < length before
  pub means : IsExpr names before tree e

-- these tokens are those of a term in its brackets and then these
pub record IsIndexRead (names : Names) (before after : Items) (e : Expr) : Type 0 where
  pub tree : Term
  pub tokens : terminals before ≡ Mark sign.OpenBracket ∷
      (kinds (term tree) ++ (Mark sign.CloseBracket ∷ terminals after))
  pub rest : after ≡ drop (term_size tree + 2) before
  pub ranked : IsRanked tree
  pub fewer : length after < length before
  pub means : IsExpr names (drop 1 before) tree e

-- these tokens are those of a term and then these; the term means the expression
pub record IsTermRead (names : Names) (before after : Items) (e : Expr) : Type 0 where
  pub tree : Term
  pub tokens : terminals before ≡ kinds (term tree) ++ terminals after
  pub rest : after ≡ drop (term_size tree) before
  pub ranked : IsRanked tree
  pub fewer : length after < length before
  pub means : IsExpr names before tree e

-- these tokens are those of a term with a sign behind it and then these; the term means the expression
pub record IsReadBefore (names : Names) (closing : Sign) (before after : Items) (e : Expr) : Type 0 where
  pub tree : Term
  pub tokens : terminals before ≡ kinds (term tree) ++ (Mark closing ∷ terminals after)
  pub rest : after ≡ drop (term_size tree + 1) before
  pub ranked : IsRanked tree
  pub fewer : length after < length before
  pub means : IsExpr names before tree e
