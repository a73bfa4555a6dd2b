-- The names that a region reads.
use Rattle.std.specs.Prelude.{ℕ, Bool, false, not, ◌&&◌, ◌||◌, ◌==◌, List, map, filter}
use Rattle.std.specs.List.{list_any, range_with_len}
use Rattle.base.specs.declared.tree.ArrayId.{ArrayId}
use Rattle.base.specs.declared.tree.ScalarId.{ScalarId}
use Rattle.base.specs.declared.tree.Stmt.{Stmt, Row_of-Stmt, end_of-Stmt, more_of-Stmt}
use Rattle.base.specs.declared.tree.Stmt.TheVariants.{Declare, Assign, Store, Combine, Print, Block', Loop', If'}
use Rattle.base.specs.declared.tree.Region.{Region}
use Rattle.base.specs.Items.{stmt_uses}
use Rattle.base.specs.ScalarUse.{expr_reads, source_reads}

abbrev mutual
  -- whether a statement reads the scalar
  pub stmt_reads : ℕ → Stmt → Bool
  stmt_reads x (Declare y v) = source_reads x v
  stmt_reads x (Assign y v) = source_reads x v
  stmt_reads x (Store a place e v) = expr_reads x e || source_reads x v
  stmt_reads x (Combine op a place e v) = expr_reads x e || expr_reads x v
  stmt_reads x (Print e) = expr_reads x e
  stmt_reads x (Block' shape all) = row_reads x all
  stmt_reads x (Loop' b shape all) = row_reads x all
  stmt_reads x (If' c shape all shape' all') = expr_reads x c || (row_reads x all || row_reads x all')

  pub row_reads : {m : _} → ℕ → Row_of-Stmt m → Bool
  row_reads x end_of-Stmt = false
  row_reads x (more_of-Stmt first rest) = stmt_reads x first || row_reads x rest

abbrev mutual
  -- whether the scalar is declared in a statement
  pub stmt_declares : ℕ → Stmt → Bool
  stmt_declares x (Declare y v) = x == y.0
  stmt_declares x (Assign y v) = false
  stmt_declares x (Store a place e v) = false
  stmt_declares x (Combine op a place e v) = false
  stmt_declares x (Print e) = false
  stmt_declares x (Block' shape all) = row_declares x all
  stmt_declares x (Loop' b shape all) = row_declares x all
  stmt_declares x (If' c shape all shape' all') = row_declares x all || row_declares x all'

  pub row_declares : {m : _} → ℕ → Row_of-Stmt m → Bool
  row_declares x end_of-Stmt = false
  row_declares x (more_of-Stmt first rest) = stmt_declares x first || row_declares x rest

-- whether the scalar is declared outside the region and read in it
abbrev pub is_captured : Region → ℕ → Bool
is_captured r x = list_any (stmt_reads x) r.body.items && not (list_any (stmt_declares x) r.body.items)

abbrev pub scalar_id : ℕ → ScalarId
scalar_id x = record { 0 = x }

-- of so many scalars those that a region captures, in ascending order
abbrev pub captures_of : ℕ → Region → List ScalarId
captures_of count r = filter (λ x. is_captured r x.0) (map scalar_id (range_with_len 0 count))

-- whether a region names a cell of the array
abbrev pub is_used : Region → ℕ → Bool
is_used r a = list_any (stmt_uses a) r.body.items

abbrev pub array_id : ℕ → ArrayId
array_id a = record { 0 = a }

-- of so many arrays those that a region uses, in ascending order
abbrev pub arrays_of : ℕ → Region → List ArrayId
arrays_of count r = filter (λ a. is_used r a.0) (map array_id (range_with_len 0 count))
