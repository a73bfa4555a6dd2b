-- The operators that stand behind an operand, and their levels.
use Rattle.std.specs.Prelude.{◌≡◌, ◌≤◌, ℕ}
use Rattle.c_tokens.specs.declared.kind.Sign.{Sign}
use Rattle.c_grammar.specs.Terminal.{Terminal, Mark}
use Rattle.c_grammar.specs.Grammar.{Operator, LogicOr, LogicAnd, Fraction, operator_sign, fraction_sign, level, fraction_level}
use Rattle.c_expressions.specs.Means.{operator_of, shift_of, divide_of}
use Rattle.c_expressions.specs.declared.operators.Operator.{Operator as GivenOperator}
use Rattle.c_expressions.specs.declared.operators.Operator.TheVariants as given
use Rattle.c_expressions.specs.declared.operators.Fraction.{Fraction as GivenFraction}
use Rattle.c_expressions.specs.declared.operators.Fraction.TheVariants as given_fraction
use Rattle.c_expressions.specs.declared.operators.Infix.{Infix}
use Rattle.c_expressions.specs.declared.operators.Infix.TheVariants as kind

abbrev pub seen_operator : GivenOperator → Operator
seen_operator given.Or = LogicOr
seen_operator given.And = LogicAnd
seen_operator (given.Binary b) = operator_of b

abbrev pub seen_fraction : GivenFraction → Fraction
seen_fraction (given_fraction.Shift o) = shift_of o
seen_fraction (given_fraction.Divide o) = divide_of o

abbrev pub infix_sign : Infix → Sign
infix_sign (kind.Operator o) = operator_sign (seen_operator o)
infix_sign (kind.Fraction o) = fraction_sign (seen_fraction o)

abbrev pub infix_level : Infix → ℕ
infix_level (kind.Operator o) = level (seen_operator o)
infix_level (kind.Fraction o) = fraction_level (seen_fraction o)

-- the token is no operator of a level from least to top
pub record Stops (least top : ℕ) (t : Terminal) : Type 0 where
  pub operator : (o : Operator) → t ≡ Mark (operator_sign o) → least ≤ level o → level o ≤ top → ⊥
  pub fraction : (o : Fraction) → t ≡ Mark (fraction_sign o) → least ≤ fraction_level o → fraction_level o ≤ top → ⊥
