-- Which scalars the statements of a vector assign for certain, and whether they have updates.
use Rattle.std.proofs.Common.{◌≡◌, ℕ, suc, ◌+◌, ◌<◌, Bool, List, refl, sym, ap, ap₂, ◌∙◌, Vec, Global, drop, length, get_or, add-one, drop-cons}
use Rattle.std.specs.Prelude.{◌&&◌, ◌||◌, nat_lt}
use mathlib.Core.Former.{Count}
use Rattle.base.specs.declared.tree.Bounds.{Bounds}
use Rattle.base.specs.declared.tree.Expr.{Expr}
use Rattle.base.specs.declared.tree.Stmt.{Stmt, Block, Loop, If, Row_of-Stmt, end_of-Stmt, more_of-Stmt, items-the_row-Stmt, items_hidden-the_row-Stmt-0}
use Rattle.base.proofs.StmtRows.{first_row, second_row}
use Rattle.spans.specs.Spans.{list_sure, list_updates, row_sure, row_updates, sure_by, updates}

sure_row : (x : ℕ) (n : Count) (row : Row_of-Stmt n) → row_sure x row ≡ list_sure x (items-the_row-Stmt n row)
sure_row x n end_of-Stmt = refl
sure_row x n (more_of-Stmt first rest) = ap (λ (b : Bool). sure_by x first || b) (sure_row x _ rest)

sure_items : (x : ℕ) (row : (n : Count) × Row_of-Stmt n) (all : List Stmt) → items-the_row-Stmt row.0 row.1 ≡ all →
    row_sure x row.1 ≡ list_sure x all
sure_items x row all e = sure_row x row.0 row.1 ∙ ap (list_sure x) e

pub sure_Block : (x : ℕ) (all : Vec Stmt Global) → sure_by x (Block all) ≡ list_sure x all.items
sure_Block x all = sure_items x (first_row (Block all)) all.items (items_hidden-the_row-Stmt-0 all)

pub sure_Loop : (x : ℕ) (b : Bounds) (all : Vec Stmt Global) →
    sure_by x (Loop b all) ≡ (nat_lt b.first b.end && list_sure x all.items)
sure_Loop x b all =
    ap (λ (q : Bool). nat_lt b.first b.end && q)
    (sure_items x (first_row (Loop b all)) all.items (items_hidden-the_row-Stmt-0 all))

pub sure_If : (x : ℕ) (c : Expr) (all other : Vec Stmt Global) →
    sure_by x (If c all other) ≡ (list_sure x all.items && list_sure x other.items)
sure_If x c all other =
    ap₂ (λ (a b : Bool). a && b)
    (sure_items x (first_row (If c all other)) all.items (items_hidden-the_row-Stmt-0 all))
    (sure_items x (second_row (If c all other)) other.items (items_hidden-the_row-Stmt-0 other))

pub sure_next : (x : ℕ) (all : List Stmt) (k : ℕ) (s : Stmt) → k < length all → s ≡ get_or all k s →
    list_sure x (drop k all) ≡ (sure_by x s || list_sure x (drop (k + 1) all))
sure_next x all k s h e =
    ap (list_sure x) (drop-cons all k s h)
    ∙ ap (λ t. sure_by x t || list_sure x (drop (suc k) all)) (sym e)
    ∙ ap (λ n. sure_by x s || list_sure x (drop n all)) (sym (add-one k))

updates_row : (n : Count) (row : Row_of-Stmt n) → row_updates row ≡ list_updates (items-the_row-Stmt n row)
updates_row n end_of-Stmt = refl
updates_row n (more_of-Stmt first rest) = ap (λ (b : Bool). updates first || b) (updates_row _ rest)

updates_items : (row : (n : Count) × Row_of-Stmt n) (all : List Stmt) → items-the_row-Stmt row.0 row.1 ≡ all →
    row_updates row.1 ≡ list_updates all
updates_items row all e = updates_row row.0 row.1 ∙ ap list_updates e

pub updates_Block : (all : Vec Stmt Global) → updates (Block all) ≡ list_updates all.items
updates_Block all = updates_items (first_row (Block all)) all.items (items_hidden-the_row-Stmt-0 all)

pub updates_Loop : (b : Bounds) (all : Vec Stmt Global) → updates (Loop b all) ≡ list_updates all.items
updates_Loop b all = updates_items (first_row (Loop b all)) all.items (items_hidden-the_row-Stmt-0 all)

pub updates_If : (c : Expr) (all other : Vec Stmt Global) →
    updates (If c all other) ≡ (list_updates all.items || list_updates other.items)
updates_If c all other =
    ap₂ (λ (a b : Bool). a || b)
    (updates_items (first_row (If c all other)) all.items (items_hidden-the_row-Stmt-0 all))
    (updates_items (second_row (If c all other)) other.items (items_hidden-the_row-Stmt-0 other))

pub updates_next : (all : List Stmt) (k : ℕ) (s : Stmt) → k < length all → s ≡ get_or all k s →
    list_updates (drop k all) ≡ (updates s || list_updates (drop (k + 1) all))
updates_next all k s h e =
    ap list_updates (drop-cons all k s h)
    ∙ ap (λ t. updates t || list_updates (drop (suc k) all)) (sym e)
    ∙ ap (λ n. updates s || list_updates (drop n all)) (sym (add-one k))
