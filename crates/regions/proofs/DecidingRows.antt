-- The loops that decide what statements touch which stand in a vector.
use Rattle.std.proofs.Common.{◌≡◌, ℕ, Bool, true, List, refl, sym, ap, ap₂, ◌∙◌, Vec, Global}
use Rattle.std.specs.Prelude.{◌||◌}
use Rattle.std.proofs.Math.Bool.{or_assoc}
use mathlib.Core.Former.{Count}
use Rattle.base.specs.declared.tree.Expr.{Expr}
use Rattle.base.specs.declared.tree.Bounds.{Bounds}
use Rattle.base.specs.declared.tree.Stmt.{Stmt, Block, Loop, If, Row_of-Stmt, end_of-Stmt, more_of-Stmt, items-the_row-Stmt, items_hidden-the_row-Stmt-0}
use Rattle.regions.specs.Deciding.{expr_decides, stmt_decides, row_decides, list_decides}
use Rattle.base.proofs.StmtRows.{StmtRow, first_row, second_row}

decides_list : (k : ℕ) (n : Count) (row : Row_of-Stmt n) → row_decides k row ≡ list_decides k (items-the_row-Stmt n row)
decides_list k n end_of-Stmt = refl
decides_list k n (more_of-Stmt first rest) = ap (λ b. stmt_decides k first || b) (decides_list k _ rest)

decides_row : (k : ℕ) (row : StmtRow) (all : List Stmt) → items-the_row-Stmt row.0 row.1 ≡ all →
    row_decides k row.1 ≡ list_decides k all
decides_row k row all e = decides_list k row.0 row.1 ∙ ap (λ xs. list_decides k xs) e

pub decides_Block : (k : ℕ) (all : Vec Stmt Global) → stmt_decides k (Block all) ≡ list_decides k all.items
decides_Block k all = decides_row k (first_row (Block all)) all.items (items_hidden-the_row-Stmt-0 all)

decides_Loop : (k : ℕ) (b : Bounds) (all : Vec Stmt Global) → stmt_decides k (Loop b all) ≡ list_decides k all.items
decides_Loop k b all = decides_row k (first_row (Loop b all)) all.items (items_hidden-the_row-Stmt-0 all)

decides_If : (k : ℕ) (c : Expr) (all other : Vec Stmt Global) → stmt_decides k (If c all other)
    ≡ (expr_decides true k c || (list_decides k all.items || list_decides k other.items))
decides_If k c all other =
    ap₂ (λ x y. expr_decides true k c || (x || y))
    (decides_row k (first_row (If c all other)) all.items (items_hidden-the_row-Stmt-0 all))
    (decides_row k (second_row (If c all other)) other.items (items_hidden-the_row-Stmt-0 other))

pub decides_in_Loop : (k : ℕ) (s : Stmt) (b : Bounds) (all : Vec Stmt Global) (xs : List Stmt) (r : Bool) →
    s ≡ Loop b all → xs ≡ all.items → r ≡ list_decides k xs → r ≡ stmt_decides k s
decides_in_Loop k s b all xs r is xs_is r_is =
    r_is ∙ ap (λ ys. list_decides k ys) xs_is ∙ sym (decides_Loop k b all) ∙ ap (λ t. stmt_decides k t) (sym is)

pub decides_in_If : (k : ℕ) (s : Stmt) (c : Expr) (all other : Vec Stmt Global) (xs ys : List Stmt)
    (p q r : Bool) →
    s ≡ If c all other → xs ≡ all.items → ys ≡ other.items →
    p ≡ expr_decides true k c → q ≡ list_decides k xs → r ≡ list_decides k ys →
    ((p || q) || r) ≡ stmt_decides k s
decides_in_If k s c all other xs ys p q r is xs_is ys_is p_is q_is r_is =
    or_assoc p q r
    ∙ (λ i. p_is i || ((q_is ∙ ap (λ zs. list_decides k zs) xs_is) i
    || (r_is ∙ ap (λ zs. list_decides k zs) ys_is) i))
    ∙ sym (decides_If k c all other) ∙ ap (λ t. stmt_decides k t) (sym is)
