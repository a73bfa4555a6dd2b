-- Regions with few runs: one loop of step 1 without loops and conditions in it, in whose subscripts its name stands alone,
-- or with a number that is added or taken away.
use Rattle.std.specs.Prelude.{ℕ, ◌≡◌, ◌+◌, ◌≤◌, Bool, true, false, ◌&&◌, ◌==◌, nat_le, List, [], ◌∷◌, length, sum_by}
use Rattle.base.specs.declared.tree.Expr.{Expr}
use Rattle.base.specs.declared.tree.Expr.TheVariants.{Number, Scalar, LoopName, Cell', Unary', Binary', And', Or', Shift', Divide'}
use Rattle.base.specs.declared.tree.BinaryOp.TheVariants.{Add, Subtract}
use Rattle.base.specs.declared.tree.Source.{Source}
use Rattle.base.specs.declared.tree.Source.TheVariants.{Value, Read as Input}
use Rattle.base.specs.declared.tree.Stmt.{Stmt, Row_of-Stmt, end_of-Stmt, more_of-Stmt}
use Rattle.base.specs.declared.tree.Stmt.TheVariants.{Declare, Assign, Store, Combine, Print, Block', Loop', If'}
use Rattle.base.specs.declared.tree.Region.{Region}
use Rattle.base.specs.declared.item.Cell.{Cell}
use Rattle.base.specs.Footprint.{Touch, exposes, reads, surely_writes, writes}
use Rattle.ranges.specs.declared.run_list.Part.{Part}
use Rattle.ranges.specs.declared.run_list.Part.TheVariants.{Exposed, Read, Write, Sure}
use Rattle.ranges.specs.declared.run_list.Run.{Run}
use Rattle.ranges.specs.declared.cells.Footprint.{Footprint}
use Rattle.ranges.specs.Cells.{has}
use Rattle.ranges.specs.RunLists.{AreRuns, set_of}

-- the cells of one of the sets
abbrev pub is_in_part : Part → List Touch → Cell → Bool
is_in_part Exposed touches = exposes touches
is_in_part Read touches = reads touches
is_in_part Write touches = writes touches
is_in_part Sure touches = surely_writes touches

-- the name of the loop with so many loops around it
abbrev pub is_name : ℕ → Expr → Bool
is_name level (LoopName other) = other == level
is_name level _ = false

-- a number of at most 65,536
abbrev pub is_small : Expr → Bool
is_small (Number n) = nat_le n 65536
is_small _ = false

-- the loop's name, alone or with such a number
abbrev pub is_near : ℕ → Expr → Bool
is_near level (LoopName other) = other == level
is_near level (Binary' Add p e q f) = is_name level e && is_small f
is_near level (Binary' Subtract p e q f) = is_name level e && is_small f
is_near level _ = false

-- whether each subscript of an expression is such a one
abbrev pub is_plain_expr : ℕ → Expr → Bool
is_plain_expr level (Number n) = true
is_plain_expr level (Scalar x) = true
is_plain_expr level (LoopName other) = true
is_plain_expr level (Cell' a place p e) = is_near level e
is_plain_expr level (Unary' op p e) = is_plain_expr level e
is_plain_expr level (Binary' op p e q f) = is_plain_expr level e && is_plain_expr level f
is_plain_expr level (And' p e q f) = is_plain_expr level e && is_plain_expr level f
is_plain_expr level (Or' p e q f) = is_plain_expr level e && is_plain_expr level f
is_plain_expr level (Shift' op p e n) = is_plain_expr level e
is_plain_expr level (Divide' op p e n) = is_plain_expr level e

abbrev pub is_plain_source : ℕ → Source → Bool
is_plain_source level (Value e) = is_plain_expr level e
is_plain_source level Input = true

abbrev mutual
  -- the same of a statement, which is no loop and no condition and contains none
  pub is_plain : ℕ → Stmt → Bool
  is_plain level (Declare x v) = is_plain_source level v
  is_plain level (Assign x v) = is_plain_source level v
  is_plain level (Store a place e v) = is_near level e && is_plain_source level v
  is_plain level (Combine op a place e v) = false
  is_plain level (Print e) = is_plain_expr level e
  is_plain level (Block' shape all) = is_plain_row level all
  is_plain level (Loop' b shape all) = false
  is_plain level (If' c shape all shape' all') = false

  pub is_plain_row : {m : _} → ℕ → Row_of-Stmt m → Bool
  is_plain_row level end_of-Stmt = true
  is_plain_row level (more_of-Stmt first rest) = is_plain level first && is_plain_row level rest

-- one loop of step 1 up to at most 65,536, with such statements in it
abbrev pub is_plain_loop : ℕ → List Stmt → Bool
is_plain_loop level (Loop' b shape all ∷ []) = (b.step == 1) && (nat_le b.end 65536 && is_plain_row level all)
is_plain_loop level _ = false

-- how often an expression names a cell of an array
abbrev pub cells_in_expr : Expr → ℕ
cells_in_expr (Number n) = 0
cells_in_expr (Scalar x) = 0
cells_in_expr (LoopName level) = 0
cells_in_expr (Cell' a place p e) = cells_in_expr e + 1
cells_in_expr (Unary' op p e) = cells_in_expr e
cells_in_expr (Binary' op p e q f) = cells_in_expr e + cells_in_expr f
cells_in_expr (And' p e q f) = cells_in_expr e + cells_in_expr f
cells_in_expr (Or' p e q f) = cells_in_expr e + cells_in_expr f
cells_in_expr (Shift' op p e n) = cells_in_expr e
cells_in_expr (Divide' op p e n) = cells_in_expr e

abbrev pub cells_in_source : Source → ℕ
cells_in_source (Value e) = cells_in_expr e
cells_in_source Input = 0

abbrev mutual
  -- the same of a statement
  pub cells_in : Stmt → ℕ
  cells_in (Declare x v) = cells_in_source v
  cells_in (Assign x v) = cells_in_source v
  cells_in (Store a place e v) = cells_in_expr e + (cells_in_source v + 1)
  cells_in (Combine op a place e v) = cells_in_expr e + (cells_in_expr v + 1)
  cells_in (Print e) = cells_in_expr e
  cells_in (Block' shape all) = cells_in_row all
  cells_in (Loop' b shape all) = cells_in_row all
  cells_in (If' c shape all shape' all') = cells_in_expr c + (cells_in_row all + cells_in_row all')

  pub cells_in_row : {m : _} → Row_of-Stmt m → ℕ
  cells_in_row end_of-Stmt = 0
  cells_in_row (more_of-Stmt first rest) = cells_in first + cells_in_row rest

abbrev pub cells_in_list : List Stmt → ℕ
cells_in_list all = sum_by cells_in all

-- where a region is such a loop, each set of its footprint has at most as many runs as it names cells of arrays
abbrev pub HasFewRuns : Region → List ℕ → Footprint → Type 0
HasFewRuns r loops f =
    is_plain_loop (length loops) r.body.items ≡ true → (part : Part) (runs : List Run) → AreRuns (has (set_of part f)) runs →
    length runs ≤ cells_in_list r.body.items
