-- What is left of statements that stand in a vector.
use Rattle.std.proofs.Common.{◌≡◌, ℕ, zero, suc, ◌+◌, ◌*◌, ◌∷◌, ◌++◌, [], List, refl, ap, ap₂, ◌∙◌, Vec, Global}
use mathlib.Core.Former.{Count}
use Rattle.base.specs.declared.tree.Expr.{Expr}
use Rattle.base.specs.declared.tree.Bounds.{Bounds}
use Rattle.base.specs.declared.tree.Stmt.{Stmt, Block, Loop, If, Row_of-Stmt, end_of-Stmt, more_of-Stmt, items-the_row-Stmt, items_hidden-the_row-Stmt-0}
use Rattle.base.specs.Meaning.{Run, turns_of}
use Rattle.base.proofs.StmtRows.{StmtRow, first_row, second_row}
use Rattle.fine_machine.specs.Left.{Left, Side, expr_left, stmt_left, row_left, list_left, turns_left}
use Rattle.actions.specs.Weight.{expr_weight, stmt_weight, row_weight, list_weight}

row_is_list : (n : Count) (row : Row_of-Stmt n) (side : Side) (loops : List ℕ) (s : Run) (k : Run → Left) →
    row_left row side loops s k ≡ list_left (items-the_row-Stmt n row) side loops s k
row_is_list n end_of-Stmt side loops s k = refl
row_is_list n (more_of-Stmt first rest) side loops s k =
    ap (λ f. stmt_left first side loops s f) (λ i t. row_is_list _ rest side loops t k i)

row_is : (row : StmtRow) (all : List Stmt) → items-the_row-Stmt row.0 row.1 ≡ all →
    (side : Side) (loops : List ℕ) (s : Run) (k : Run → Left) →
    row_left row.1 side loops s k ≡ list_left all side loops s k
row_is row all e side loops s k =
    row_is_list row.0 row.1 side loops s k ∙ ap (λ xs. list_left xs side loops s k) e

pub left_Block : (all : Vec Stmt Global) (side : Side) (loops : List ℕ) (s : Run) (k : Run → Left) →
    stmt_left (Block all) side loops s k ≡ list_left all.items side loops s k
left_Block all side loops s k =
    row_is (first_row (Block all)) all.items (items_hidden-the_row-Stmt-0 all) side loops s k

pub left_Loop : (b : Bounds) (all : Vec Stmt Global) (side : Side) (loops : List ℕ) (s : Run) (k : Run → Left) →
    stmt_left (Loop b all) side loops s k
    ≡ turns_left (turns_of b) b.first b.step (λ v. list_left all.items side (loops ++ v ∷ [])) s k
left_Loop b all side loops s k =
    ap (λ body. turns_left (turns_of b) b.first b.step body s k)
    (λ i v t k'. row_is (first_row (Loop b all)) all.items (items_hidden-the_row-Stmt-0 all) side (loops ++ v ∷ []) t k' i)

pub left_If : (c : Expr) (all other : Vec Stmt Global) (side : Side) (loops : List ℕ) (s : Run) (k : Run → Left) →
    stmt_left (If c all other) side loops s k
    ≡ expr_left c side loops s.scalars
    (λ n. elim n [
      | zero ↦ list_left other.items side loops s k
      | suc m ↦ list_left all.items side loops s k
    ])
left_If c all other side loops s k =
    ap₂ (λ x y. expr_left c side loops s.scalars (λ n. elim n [ zero ↦ y | suc m ↦ x ]))
    (row_is (first_row (If c all other)) all.items (items_hidden-the_row-Stmt-0 all) side loops s k)
    (row_is (second_row (If c all other)) other.items (items_hidden-the_row-Stmt-0 other) side loops s k)

weight_is_list : (n : Count) (row : Row_of-Stmt n) → row_weight row ≡ list_weight (items-the_row-Stmt n row)
weight_is_list n end_of-Stmt = refl
weight_is_list n (more_of-Stmt first rest) = ap (λ w. (1 + stmt_weight first) + w) (weight_is_list _ rest)

weight_is : (row : StmtRow) (all : List Stmt) → items-the_row-Stmt row.0 row.1 ≡ all → row_weight row.1 ≡ list_weight all
weight_is row all e = weight_is_list row.0 row.1 ∙ ap list_weight e

pub weight_Block : (all : Vec Stmt Global) → stmt_weight (Block all) ≡ 1 + list_weight all.items
weight_Block all = ap (λ w. 1 + w) (weight_is (first_row (Block all)) all.items (items_hidden-the_row-Stmt-0 all))

pub weight_Loop : (b : Bounds) (all : Vec Stmt Global) →
    stmt_weight (Loop b all) ≡ 1 + turns_of b * (2 + list_weight all.items)
weight_Loop b all =
    ap (λ w. 1 + turns_of b * (2 + w)) (weight_is (first_row (Loop b all)) all.items (items_hidden-the_row-Stmt-0 all))

pub weight_If : (c : Expr) (all other : Vec Stmt Global) →
    stmt_weight (If c all other) ≡ (2 + (list_weight all.items + list_weight other.items)) + expr_weight c
weight_If c all other =
    ap₂ (λ x y. (2 + (x + y)) + expr_weight c)
    (weight_is (first_row (If c all other)) all.items (items_hidden-the_row-Stmt-0 all))
    (weight_is (second_row (If c all other)) other.items (items_hidden-the_row-Stmt-0 other))
