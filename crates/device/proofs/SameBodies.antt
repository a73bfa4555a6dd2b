-- Whether statements are the same whose own statements stand in vectors.
use Rattle.std.proofs.Common.{◌≡◌, ◌≢◌, Bool, true, false, ◌&&◌, List, [], ◌∷◌, length, refl, ap, ap₂, ◌∙◌, Vec, Global, arith}
use mathlib.Core.Former.{Count}
use Rattle.base.specs.declared.tree.Expr.{Expr}
use Rattle.base.specs.declared.tree.Bounds.{Bounds}
use Rattle.base.specs.declared.tree.Stmt.{Stmt, Block, Loop, If, Row_of-Stmt, end_of-Stmt, more_of-Stmt, items-the_row-Stmt, items_hidden-the_row-Stmt-0}
use Rattle.base.proofs.StmtRows.{first_row, second_row}
use Rattle.device.specs.Same.{same_bounds, same_expr, same_list, same_row, same_stmt}

rows_are_lists : (m n : Count) (x : Row_of-Stmt m) (y : Row_of-Stmt n) →
    same_row x y ≡ same_list (items-the_row-Stmt m x) (items-the_row-Stmt n y)
rows_are_lists m n end_of-Stmt end_of-Stmt = refl
rows_are_lists m n end_of-Stmt (more_of-Stmt y ys) = refl
rows_are_lists m n (more_of-Stmt x xs) end_of-Stmt = refl
rows_are_lists m n (more_of-Stmt x xs) (more_of-Stmt y ys) = ap (λ b. same_stmt x y && b) (rows_are_lists _ _ xs ys)

rows_are : (x y : (n : Count) × Row_of-Stmt n) (all other : List Stmt) → items-the_row-Stmt x.0 x.1 ≡ all →
    items-the_row-Stmt y.0 y.1 ≡ other → same_row x.1 y.1 ≡ same_list all other
rows_are x y all other e f = rows_are_lists x.0 y.0 x.1 y.1 ∙ ap₂ same_list e f

pub same_Block : (all other : Vec Stmt Global) → same_stmt (Block all) (Block other) ≡ same_list all.items other.items
same_Block all other =
    rows_are (first_row (Block all)) (first_row (Block other)) all.items other.items (items_hidden-the_row-Stmt-0 all)
    (items_hidden-the_row-Stmt-0 other)

pub same_Loop : (a b : Bounds) (all other : Vec Stmt Global) →
    same_stmt (Loop a all) (Loop b other) ≡ (same_bounds a b && same_list all.items other.items)
same_Loop a b all other =
    ap (λ x. same_bounds a b && x)
    (rows_are (first_row (Loop a all)) (first_row (Loop b other)) all.items other.items (items_hidden-the_row-Stmt-0 all)
    (items_hidden-the_row-Stmt-0 other))

pub same_If : (a b : Expr) (all more other rest : Vec Stmt Global) →
    same_stmt (If a all more) (If b other rest)
    ≡ (same_expr a b && (same_list all.items other.items && same_list more.items rest.items))
same_If a b all more other rest =
    ap₂ (λ x y. same_expr a b && (x && y))
    (rows_are (first_row (If a all more)) (first_row (If b other rest)) all.items other.items (items_hidden-the_row-Stmt-0 all)
    (items_hidden-the_row-Stmt-0 other))
    (rows_are (second_row (If a all more)) (second_row (If b other rest)) more.items rest.items
    (items_hidden-the_row-Stmt-0 more) (items_hidden-the_row-Stmt-0 rest))

pub of_Loop : (s t : Stmt) (a b : Bounds) (all other : Vec Stmt Global) → s ≡ Loop a all → t ≡ Loop b other →
    same_stmt s t ≡ (same_bounds a b && same_list all.items other.items)
of_Loop s t a b all other e f = ap₂ same_stmt e f ∙ same_Loop a b all other

pub of_If : (s t : Stmt) (a b : Expr) (all more other rest : Vec Stmt Global) → s ≡ If a all more → t ≡ If b other rest →
    same_stmt s t ≡ (same_expr a b && (same_list all.items other.items && same_list more.items rest.items))
of_If s t a b all more other rest e f = ap₂ same_stmt e f ∙ same_If a b all more other rest

-- lists of different lengths
pub other_length : (xs ys : List Stmt) → length xs ≢ length ys → same_list xs ys ≡ false
other_length [] [] h = absurd (h refl)
other_length [] (y ∷ ys) h = refl
other_length (x ∷ xs) [] h = refl
other_length (x ∷ xs) (y ∷ ys) h = ends (same_stmt x y) (same_list xs ys) (other_length xs ys (λ e. h (omega arith)))
  where
    ends : (a b : Bool) → b ≡ false → (a && b) ≡ false
    ends true b e = e
    ends false b e = refl
