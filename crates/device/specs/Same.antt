-- Whether statements are the same, with their places in the source. Where the nodes of their trees lie in memory does
-- not count.
use Rattle.std.specs.Prelude.{ℕ, Bool, true, false, ◌&&◌, ◌==◌, List, [], ◌∷◌}
use Rattle.base.specs.declared.tree.Place.{Place}
use Rattle.base.specs.declared.tree.UnaryOp.{UnaryOp}
use Rattle.base.specs.declared.tree.UnaryOp.TheVariants as one
use Rattle.base.specs.declared.tree.BinaryOp.{BinaryOp}
use Rattle.base.specs.declared.tree.BinaryOp.TheVariants as two
use Rattle.base.specs.declared.tree.ShiftOp.{ShiftOp}
use Rattle.base.specs.declared.tree.ShiftOp.TheVariants as shift
use Rattle.base.specs.declared.tree.DivideOp.{DivideOp}
use Rattle.base.specs.declared.tree.DivideOp.TheVariants as divide
use Rattle.base.specs.declared.tree.CombineOp.{CombineOp}
use Rattle.base.specs.declared.tree.CombineOp.TheVariants as combining
use Rattle.base.specs.declared.tree.Bounds.{Bounds}
use Rattle.base.specs.declared.tree.Expr.{Expr}
use Rattle.base.specs.declared.tree.Expr.TheVariants.{Number, Scalar, LoopName, Cell', Unary', Binary', And', Or', Shift', Divide'}
use Rattle.base.specs.declared.tree.Source.{Source}
use Rattle.base.specs.declared.tree.Source.TheVariants.{Value, Read}
use Rattle.base.specs.declared.tree.Stmt.{Stmt, Row_of-Stmt, end_of-Stmt, more_of-Stmt}
use Rattle.base.specs.declared.tree.Stmt.TheVariants.{Declare, Assign, Store, Combine, Print, Block', Loop', If'}

abbrev pub same_place : Place → Place → Bool
same_place a b = (a.line == b.line) && (a.column == b.column)

abbrev pub unary_number : UnaryOp → ℕ
unary_number one.Not = 0
unary_number one.Complement = 1

abbrev pub binary_number : BinaryOp → ℕ
binary_number two.BitOr = 0
binary_number two.BitXor = 1
binary_number two.BitAnd = 2
binary_number two.Equal = 3
binary_number two.NotEqual = 4
binary_number two.Less = 5
binary_number two.LessOrEqual = 6
binary_number two.Greater = 7
binary_number two.GreaterOrEqual = 8
binary_number two.Add = 9
binary_number two.Subtract = 10
binary_number two.Multiply = 11

abbrev pub shift_number : ShiftOp → ℕ
shift_number shift.Left = 0
shift_number shift.Right = 1

abbrev pub divide_number : DivideOp → ℕ
divide_number divide.Quotient = 0
divide_number divide.Remainder = 1

abbrev pub combine_number : CombineOp → ℕ
combine_number combining.Add = 0
combine_number combining.Multiply = 1
combine_number combining.BitAnd = 2
combine_number combining.BitOr = 3
combine_number combining.BitXor = 4
combine_number combining.Min = 5
combine_number combining.Max = 6

abbrev pub same_bounds : Bounds → Bounds → Bool
same_bounds a b = (a.first == b.first) && ((a.end == b.end) && (a.step == b.step))

abbrev pub same_expr : Expr → Expr → Bool
same_expr (Number m) (Number n) = m == n
same_expr (Scalar x) (Scalar y) = x.0 == y.0
same_expr (LoopName m) (LoopName n) = m == n
same_expr (Cell' x at p i) (Cell' y to q j) = (x.0 == y.0) && (same_place at to && same_expr i j)
same_expr (Unary' o p a) (Unary' u q b) = (unary_number o == unary_number u) && same_expr a b
same_expr (Binary' o p a q c) (Binary' u r b s d) = (binary_number o == binary_number u) && (same_expr a b && same_expr c d)
same_expr (And' p a q c) (And' r b s d) = same_expr a b && same_expr c d
same_expr (Or' p a q c) (Or' r b s d) = same_expr a b && same_expr c d
same_expr (Shift' o p a m) (Shift' u q b n) = (shift_number o == shift_number u) && ((m.count == n.count) && same_expr a b)
same_expr (Divide' o p a m) (Divide' u q b n) = (divide_number o == divide_number u) && ((m.value == n.value) && same_expr a b)
same_expr _ _ = false

abbrev pub same_source : Source → Source → Bool
same_source (Value a) (Value b) = same_expr a b
same_source Read Read = true
same_source _ _ = false

abbrev mutual
  pub same_stmt : Stmt → Stmt → Bool
  same_stmt (Declare x v) (Declare y w) = (x.0 == y.0) && same_source v w
  same_stmt (Assign x v) (Assign y w) = (x.0 == y.0) && same_source v w
  same_stmt (Store x at i v) (Store y to j w) = (x.0 == y.0) && (same_place at to && (same_expr i j && same_source v w))
  same_stmt (Combine o x at i v) (Combine u y to j w) =
      (combine_number o == combine_number u)
      && ((x.0 == y.0) && (same_place at to && (same_expr i j && same_expr v w)))
  same_stmt (Print a) (Print b) = same_expr a b
  same_stmt (Block' m all) (Block' n other) = same_row all other
  same_stmt (Loop' a m all) (Loop' b n other) = same_bounds a b && same_row all other
  same_stmt (If' a k all m more) (If' b l other n rest) = same_expr a b && (same_row all other && same_row more rest)
  same_stmt _ _ = false

  pub same_row : {m n : _} → Row_of-Stmt m → Row_of-Stmt n → Bool
  same_row end_of-Stmt end_of-Stmt = true
  same_row (more_of-Stmt x xs) (more_of-Stmt y ys) = same_stmt x y && same_row xs ys
  same_row _ _ = false

abbrev pub same_list : List Stmt → List Stmt → Bool
same_list [] [] = true
same_list (x ∷ xs) (y ∷ ys) = same_stmt x y && same_list xs ys
same_list _ _ = false
