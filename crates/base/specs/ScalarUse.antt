-- Which scalars statements assign, and which have to be there before them.
use Rattle.std.specs.Prelude.{ℕ, Bool, false, not, ◌&&◌, ◌||◌, ◌==◌, List, [], ◌∷◌, ◌++◌, flat_map}
use Rattle.base.specs.declared.tree.Expr.{Expr}
use Rattle.base.specs.declared.tree.Expr.TheVariants.{Number, Scalar, LoopName, Cell', Unary', Binary', And', Or', Shift', Divide'}
use Rattle.base.specs.declared.tree.Source.{Source}
use Rattle.base.specs.declared.tree.Source.TheVariants.{Value, Read}
use Rattle.base.specs.declared.tree.Stmt.{Stmt, Row_of-Stmt, end_of-Stmt, more_of-Stmt}
use Rattle.base.specs.declared.tree.Stmt.TheVariants.{Declare, Assign, Store, Combine, Print, Block', Loop', If'}

-- whether an expression reads the scalar
abbrev pub expr_reads : ℕ → Expr → Bool
expr_reads x (Number n) = false
expr_reads x (Scalar y) = x == y.0
expr_reads x (LoopName level) = false
expr_reads x (Cell' a place p e) = expr_reads x e
expr_reads x (Unary' op p e) = expr_reads x e
expr_reads x (Binary' op p e q f) = expr_reads x e || expr_reads x f
expr_reads x (And' p e q f) = expr_reads x e || expr_reads x f
expr_reads x (Or' p e q f) = expr_reads x e || expr_reads x f
expr_reads x (Shift' op p e n) = expr_reads x e
expr_reads x (Divide' op p e n) = expr_reads x e

abbrev pub source_reads : ℕ → Source → Bool
source_reads x (Value e) = expr_reads x e
source_reads x Read = false

abbrev mutual
  -- the scalars that a statement may assign
  pub stmt_assigned : Stmt → List ℕ
  stmt_assigned (Declare x v) = x.0 ∷ []
  stmt_assigned (Assign x v) = x.0 ∷ []
  stmt_assigned (Store a place e v) = []
  stmt_assigned (Combine op a place e v) = []
  stmt_assigned (Print e) = []
  stmt_assigned (Block' shape all) = row_assigned all
  stmt_assigned (Loop' b shape all) = row_assigned all
  stmt_assigned (If' c shape all shape' all') = row_assigned all ++ row_assigned all'

  pub row_assigned : {m : _} → Row_of-Stmt m → List ℕ
  row_assigned end_of-Stmt = []
  row_assigned (more_of-Stmt first rest) = stmt_assigned first ++ row_assigned rest

abbrev pub list_assigned : List Stmt → List ℕ
list_assigned body = flat_map stmt_assigned body

-- whether a statement is an assignment of the scalar
abbrev pub sets : ℕ → Stmt → Bool
sets x (Declare y v) = x == y.0
sets x (Assign y v) = x == y.0
sets x (Store a place e v) = false
sets x (Combine op a place e v) = false
sets x (Print e) = false
sets x (Block' shape all) = false
sets x (Loop' b shape all) = false
sets x (If' c shape all shape' all') = false

abbrev mutual
  -- whether a statement may read the scalar where no statement before, in a row that holds the read, has assigned it
  pub stmt_needs : ℕ → Stmt → Bool
  stmt_needs x (Declare y v) = source_reads x v
  stmt_needs x (Assign y v) = source_reads x v
  stmt_needs x (Store a place e v) = expr_reads x e || source_reads x v
  stmt_needs x (Combine op a place e v) = expr_reads x e || expr_reads x v
  stmt_needs x (Print e) = expr_reads x e
  stmt_needs x (Block' shape all) = row_needs x all
  stmt_needs x (Loop' b shape all) = row_needs x all
  stmt_needs x (If' c shape all shape' all') = expr_reads x c || (row_needs x all || row_needs x all')

  pub row_needs : {m : _} → ℕ → Row_of-Stmt m → Bool
  row_needs x end_of-Stmt = false
  row_needs x (more_of-Stmt first rest) = stmt_needs x first || (not (sets x first) && row_needs x rest)

abbrev pub list_needs : ℕ → List Stmt → Bool
list_needs x [] = false
list_needs x (first ∷ rest) = stmt_needs x first || (not (sets x first) && list_needs x rest)
