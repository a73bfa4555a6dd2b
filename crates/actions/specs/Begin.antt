-- What is left where an expression, a source or a statement is begun.
use Rattle.std.specs.Prelude.{ℕ, ◌≡◌, ◌+◌, List}
use Rattle.base.specs.declared.tree.Expr.{Expr}
use Rattle.base.specs.Memory.{Scalars}
use Rattle.base.specs.Meaning.{Run}
use Rattle.fine_machine.specs.Left.{Side, expr_left}
use Rattle.actions.specs.declared.frame.Frame.{Frame}
use Rattle.actions.specs.Rest.{rest_of}
use Rattle.actions.specs.Weight.{expr_weight, weight}

-- the parts of an expression stand before what follows from its value, with a first number at hand
pub record BeginsExpr (e : Expr) (loops : List ℕ) (scalars : Scalars) (old : List Frame) (first : ℕ) (new : List Frame) : Type 0 where
  pub left : (side : Side) (s : Run) → s.scalars ≡ scalars →
      rest_of side new loops first s ≡ expr_left e side loops s.scalars (λ n. rest_of side old loops n s)
  pub weight : weight new ≡ weight old + expr_weight e
