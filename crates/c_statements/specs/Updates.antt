-- The commuting update that a store is, or a store under an if.
use Rattle.std.specs.Prelude.{ℕ, Bool, true, false, ◌&&◌, ◌==◌, if◌then◌else◌, List, [], ◌∷◌, Option, Some, None}
use Rattle.base.specs.declared.tree.ArrayId.{ArrayId}
use Rattle.base.specs.declared.tree.Place.{Place}
use Rattle.base.specs.declared.tree.UnaryOp.{UnaryOp}
use Rattle.base.specs.declared.tree.UnaryOp.TheVariants as unary
use Rattle.base.specs.declared.tree.BinaryOp.{BinaryOp}
use Rattle.base.specs.declared.tree.BinaryOp.TheVariants as binary
use Rattle.base.specs.declared.tree.ShiftOp.{ShiftOp}
use Rattle.base.specs.declared.tree.ShiftOp.TheVariants as shift
use Rattle.base.specs.declared.tree.DivideOp.{DivideOp}
use Rattle.base.specs.declared.tree.DivideOp.TheVariants as divide
use Rattle.base.specs.declared.tree.CombineOp.{CombineOp}
use Rattle.base.specs.declared.tree.CombineOp.TheVariants as combining
use Rattle.base.specs.declared.tree.Expr.{Expr}
use Rattle.base.specs.declared.tree.Expr.TheVariants.{Number, Scalar, LoopName, Cell', Unary', Binary', And', Or', Shift', Divide'}
use Rattle.base.specs.declared.tree.Source.{Source}
use Rattle.base.specs.declared.tree.Source.TheVariants.{Value}
use Rattle.base.specs.declared.tree.Stmt.{Stmt, items-the_row-Stmt}
use Rattle.base.specs.declared.tree.Stmt.TheVariants.{Store, Combine, If'}

-- the operator of updates that an operator of expressions is
abbrev pub combine_op : BinaryOp → Option CombineOp
combine_op binary.Add = Some combining.Add
combine_op binary.Multiply = Some combining.Multiply
combine_op binary.BitAnd = Some combining.BitAnd
combine_op binary.BitOr = Some combining.BitOr
combine_op binary.BitXor = Some combining.BitXor
combine_op binary.Equal = None
combine_op binary.NotEqual = None
combine_op binary.Less = None
combine_op binary.LessOrEqual = None
combine_op binary.Greater = None
combine_op binary.GreaterOrEqual = None
combine_op binary.Subtract = None

abbrev pub unary_number : UnaryOp → ℕ
unary_number unary.Not = 0
unary_number unary.Complement = 1

abbrev pub binary_number : BinaryOp → ℕ
binary_number binary.BitOr = 0
binary_number binary.BitXor = 1
binary_number binary.BitAnd = 2
binary_number binary.Equal = 3
binary_number binary.NotEqual = 4
binary_number binary.Less = 5
binary_number binary.LessOrEqual = 6
binary_number binary.Greater = 7
binary_number binary.GreaterOrEqual = 8
binary_number binary.Add = 9
binary_number binary.Subtract = 10
binary_number binary.Multiply = 11

abbrev pub shift_number : ShiftOp → ℕ
shift_number shift.Left = 0
shift_number shift.Right = 1

abbrev pub divide_number : DivideOp → ℕ
divide_number divide.Quotient = 0
divide_number divide.Remainder = 1

-- the same expression, wherever its tokens stand
abbrev pub same_expr : Expr → Expr → Bool
same_expr (Number m) (Number n) = m == n
same_expr (Scalar x) (Scalar y) = x.0 == y.0
same_expr (LoopName m) (LoopName n) = m == n
same_expr (Cell' a at p e) (Cell' b to q f) = (a.0 == b.0) && same_expr e f
same_expr (Unary' o p e) (Unary' u q f) = (unary_number o == unary_number u) && same_expr e f
same_expr (Binary' o p e q g) (Binary' u r f s h) =
    (binary_number o == binary_number u) && (same_expr e f && same_expr g h)
same_expr (And' p e q g) (And' r f s h) = same_expr e f && same_expr g h
same_expr (Or' p e q g) (Or' r f s h) = same_expr e f && same_expr g h
same_expr (Shift' o p e m) (Shift' u q f n) =
    (shift_number o == shift_number u) && ((m.count == n.count) && same_expr e f)
same_expr (Divide' o p e m) (Divide' u q f n) =
    (divide_number o == divide_number u) && ((m.value == n.value) && same_expr e f)
same_expr _ _ = false

-- the operator by which a store in a cell of what an operator makes of a cell and a value is an update of the first: the
-- cells are the same
abbrev pub op_at : ArrayId → Expr → BinaryOp → ArrayId → Expr → Option CombineOp
op_at a e o b f = if (a.0 == b.0) && same_expr e f then combine_op o else None

-- the same of what is stored
abbrev pub op_of : ArrayId → Expr → Source → Option CombineOp
op_of a e (Value (Binary' o p (Cell' b to q f) r v)) = op_at a e o b f
op_of a e v = None

-- the update by an operator, if there is one, and else the store
abbrev pub update_or : Option CombineOp → ArrayId → Place → Expr → Expr → Stmt → Stmt
update_or (Some o) a at e v s = Combine o a at e v
update_or None a at e v s = s

-- ---- the greater or the lesser of two numbers

-- the number that is kept where a value stands in the relation to it, which then takes its place, is the least or the greatest
abbrev pub over : BinaryOp → Option CombineOp
over binary.Less = Some combining.Min
over binary.LessOrEqual = Some combining.Min
over binary.Greater = Some combining.Max
over binary.GreaterOrEqual = Some combining.Max
over o = None

-- the same where it stands in the relation to the value
abbrev pub under : BinaryOp → Option CombineOp
under binary.Less = Some combining.Max
under binary.LessOrEqual = Some combining.Max
under binary.Greater = Some combining.Min
under binary.GreaterOrEqual = Some combining.Min
under o = None

-- the cell with this subscript
abbrev pub is_cell : ArrayId → Expr → Expr → Bool
is_cell a e (Cell' b to q f) = (a.0 == b.0) && same_expr e f
is_cell a e v = false

-- the operator of a store of v in the cell under this test
abbrev pub extreme_by : ArrayId → Expr → Expr → Expr → Option CombineOp
extreme_by a e v (Binary' o p l q r) =
    if is_cell a e r && same_expr l v then over o
    else (if is_cell a e l && same_expr r v then under o else None)
extreme_by a e v t = None

-- the operator of a store of v in the cell where this test does not hold
abbrev pub extreme_unless : ArrayId → Expr → Expr → Expr → Option CombineOp
extreme_unless a e v (Binary' o p l q r) =
    if is_cell a e l && same_expr r v then over o
    else (if is_cell a e r && same_expr l v then under o else None)
extreme_unless a e v t = None

-- these statements store the cell's own number in it
abbrev pub is_own : ArrayId → Expr → List Stmt → Bool
is_own a e (Store b to f (Value g) ∷ []) = (a.0 == b.0) && (same_expr e f && is_cell a e g)
is_own a e others = false

-- or nothing
abbrev pub keeps : ArrayId → Expr → List Stmt → Bool
keeps a e [] = true
keeps a e (s ∷ others) = is_own a e (s ∷ others)

-- the operator of an if whose first statements, or second ones, store a value in a cell that the others leave its number
abbrev pub extreme_of : Expr → List Stmt → List Stmt → Option CombineOp
extreme_of t (Store a at e (Value v) ∷ []) others = if keeps a e others then extreme_by a e v t else None
extreme_of t first others = None

abbrev pub extreme_else : Expr → List Stmt → List Stmt → Option CombineOp
extreme_else t first (Store a at e (Value v) ∷ []) = if is_own a e first then extreme_unless a e v t else None
extreme_else t first others = None

-- the update by an operator, if there is one, that stands in the place of a store, and else the statement
abbrev pub extreme_or : Option CombineOp → List Stmt → Stmt → Stmt
extreme_or (Some o) (Store a at e (Value v) ∷ []) s = Combine o a at e v
extreme_or o first s = s

-- they are one store of a value
abbrev pub IsStored : List Stmt → Type 0
IsStored (Store a at e (Value v) ∷ []) = Unit {0}
IsStored first = ⊥

-- the update that an if with these statements is, or the statement
abbrev pub choice_or : Expr → List Stmt → List Stmt → Stmt → Stmt
choice_or t first others s =
    extreme_or (extreme_of t first others) first (extreme_or (extreme_else t first others) others s)

-- the update that a store of the cell's own number, taken with a value by such an operator, is, or an if that stores a value
-- where it is greater than the cell's number, or less; every other statement as it is
abbrev pub as_update : Stmt → Stmt
as_update (Store a at e (Value (Binary' o p (Cell' b to q f) r v))) =
    update_or (op_at a e o b f) a at e v (Store a at e (Value (Binary' o p (Cell' b to q f) r v)))
as_update (If' t n first m others) =
    choice_or t (items-the_row-Stmt _ first) (items-the_row-Stmt _ others) (If' t n first m others)
as_update s = s
