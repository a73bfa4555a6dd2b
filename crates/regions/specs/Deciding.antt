-- Which of the loops around a region decide what it touches.
use Rattle.std.specs.Prelude.{ℕ, ◌≡◌, ◌<◌, Bool, true, false, ◌&&◌, ◌||◌, ◌==◌, List, length, slice_index, slice_get, Some, if◌then◌else◌}
use Rattle.std.specs.List.{list_any}
use Rattle.base.specs.declared.tree.Expr.{Expr}
use Rattle.base.specs.declared.tree.Expr.TheVariants.{Number, Scalar, LoopName, Cell', Unary', Binary', And', Or', Shift', Divide'}
use Rattle.base.specs.declared.tree.Source.{Source}
use Rattle.base.specs.declared.tree.Source.TheVariants.{Value, Read}
use Rattle.base.specs.declared.tree.Stmt.{Stmt, Row_of-Stmt, end_of-Stmt, more_of-Stmt}
use Rattle.base.specs.declared.tree.Stmt.TheVariants.{Declare, Assign, Store, Combine, Print, Block', Loop', If'}
use Rattle.base.specs.declared.tree.Region.{Region}
use Rattle.base.specs.Items.{Work}
use Rattle.base.specs.Accepted.{region_faults}
use Rattle.base.specs.Actions.{touches_in}
use Rattle.base.specs.Footprint.{touches_of}
use Rattle.base.specs.Turns.{turns_at, turns_in_work, turns_meet}
use Rattle.base.specs.declared.item.Cell.{Cell}

-- whether an expression names the loop at this level in a subscript, or anywhere where its own value decides
abbrev pub expr_decides : Bool → ℕ → Expr → Bool
expr_decides deciding level (Number n) = false
expr_decides deciding level (Scalar x) = false
expr_decides deciding level (LoopName other) = deciding && (other == level)
expr_decides deciding level (Cell' a place p e) = expr_decides true level e
expr_decides deciding level (Unary' op p e) = expr_decides deciding level e
expr_decides deciding level (Binary' op p e q f) = expr_decides deciding level e || expr_decides deciding level f
expr_decides deciding level (And' p e q f) = expr_decides deciding level e || expr_decides deciding level f
expr_decides deciding level (Or' p e q f) = expr_decides deciding level e || expr_decides deciding level f
expr_decides deciding level (Shift' op p e n) = expr_decides deciding level e
expr_decides deciding level (Divide' op p e n) = expr_decides deciding level e

abbrev pub source_decides : ℕ → Source → Bool
source_decides level (Value e) = expr_decides false level e
source_decides level Read = false

abbrev mutual
  -- whether a statement names the loop at this level in a subscript or a condition; a value that is stored, assigned,
  -- printed or declared decides nothing by itself, and the bounds of its own loops are literals
  pub stmt_decides : ℕ → Stmt → Bool
  stmt_decides level (Declare x v) = source_decides level v
  stmt_decides level (Assign x v) = source_decides level v
  stmt_decides level (Store a place e v) = expr_decides true level e || source_decides level v
  stmt_decides level (Combine op a place e v) = expr_decides true level e || expr_decides false level v
  stmt_decides level (Print e) = expr_decides false level e
  stmt_decides level (Block' shape all) = row_decides level all
  stmt_decides level (Loop' b shape all) = row_decides level all
  stmt_decides level (If' c shape all shape' all') =
      expr_decides true level c || (row_decides level all || row_decides level all')

  pub row_decides : {m : _} → ℕ → Row_of-Stmt m → Bool
  row_decides level end_of-Stmt = false
  row_decides level (more_of-Stmt first rest) = stmt_decides level first || row_decides level rest

abbrev pub list_decides : ℕ → List Stmt → Bool
list_decides level all = list_any (stmt_decides level) all

-- whether a region names the loop at this level in a subscript or a condition
abbrev pub decides : ℕ → Region → Bool
decides level r = list_decides level r.body.items

-- as many values of loops, and the same ones at each level at which the test holds
pub record AgreeWhere (test : ℕ → Bool) (loops other : List ℕ) : Type 0 where
  pub count : length loops ≡ length other
  pub values : (level : ℕ) → level < length loops → test level ≡ true → slice_index loops level ≡ slice_index other level

-- the loops that decide what a region touches have the same values
abbrev pub AgreeWhereDeciding : Region → List ℕ → List ℕ → Type 0
AgreeWhereDeciding r loops other = AgreeWhere (λ level. decides level r) loops other

-- a region touches the same, has the same faults of range, and its turns meet on the same cells, at these and at the
-- other values of the loops around it
pub record TouchesAlike (r : Region) (loops other : List ℕ) : Type 0 where
  pub touches : touches_of r loops ≡ touches_of r other
  pub faults : (lengths : List ℕ) → region_faults lengths loops (Some r) ≡ region_faults lengths other (Some r)
  pub turns : (c : Cell) →
      turns_meet (turns_at r.depth r.body.items loops) c ≡ turns_meet (turns_at r.depth r.body.items other) c

-- what a region touches, which faults of range it has, and where its turns meet depends on the values alone of the loops
-- around it that it names in a subscript or a condition
abbrev pub UndecidingLoopsDecideNothing : Type 0
UndecidingLoopsDecideNothing =
    (r : Region) (loops other : List ℕ) → AgreeWhereDeciding r loops other → TouchesAlike r loops other

-- which of the n loops around a region decide what it touches
pub record AreDeciding (r : Region) (n : ℕ) (marks : List Bool) : Type 0 where
  pub count : length marks ≡ n
  pub each : (level : ℕ) → level < n → slice_get marks level ≡ Some (decides level r)

-- the values of the loops, with 0 for each that is not marked
pub record AreMarkedValues (marks : List Bool) (loops values : List ℕ) : Type 0 where
  pub count : length values ≡ length loops
  pub each : (level : ℕ) (mark : Bool) → slice_get marks level ≡ Some mark →
      slice_index values level ≡ (if mark then slice_index loops level else 0)

-- of loops with the same values where they are marked as deciding a region touches the same
abbrev pub MarkedValuesDecide : Type 0
MarkedValuesDecide =
    (r : Region) (marks : List Bool) (loops other values : List ℕ) → AreDeciding r (length loops) marks →
    length other ≡ length loops → AreMarkedValues marks loops values → AreMarkedValues marks other values →
    TouchesAlike r loops other

-- the regions of two items touch the same, have the same faults of range, and their turns meet on the same cells
pub record WorksAlike (v w : Work) : Type 0 where
  pub touches : touches_in v ≡ touches_in w
  pub faults : (lengths : List ℕ) → region_faults lengths v.loops v.region ≡ region_faults lengths w.loops w.region
  pub turns : (c : Cell) → turns_meet (turns_in_work v) c ≡ turns_meet (turns_in_work w) c

-- two items of one region touch alike where the loops that decide have the same values around both
abbrev pub AgreeingItemsTouchAlike : Type 0
AgreeingItemsTouchAlike =
    (r : Region) (v w : Work) → v.region ≡ Some r → w.region ≡ Some r → AgreeWhereDeciding r v.loops w.loops →
    WorksAlike v w
