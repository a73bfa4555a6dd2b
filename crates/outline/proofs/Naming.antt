-- What statements name whose own statements stand in a vector.
use Rattle.std.proofs.Common.{◌≡◌, ℕ, Bool, List, refl, sym, ap, ap₂, ◌∙◌, Vec, Global}
use Rattle.std.specs.Prelude.{◌||◌}
use Rattle.std.specs.List.{list_any}
use Rattle.std.proofs.Math.Bool.{or_assoc}
use mathlib.Core.Former.{Count}
use Rattle.base.specs.declared.tree.Expr.{Expr}
use Rattle.base.specs.declared.tree.Bounds.{Bounds}
use Rattle.base.specs.declared.tree.Stmt.{Stmt, Block, Loop, If, Row_of-Stmt, end_of-Stmt, more_of-Stmt, items-the_row-Stmt, items_hidden-the_row-Stmt-0}
use Rattle.base.specs.Items.{expr_uses, stmt_uses, row_uses}
use Rattle.base.specs.ScalarUse.{expr_reads}
use Rattle.outline.specs.Captures.{stmt_reads, row_reads, stmt_declares, row_declares}
use Rattle.base.proofs.StmtRows.{StmtRow, first_row, second_row}

uses_list : (a : ℕ) (n : Count) (row : Row_of-Stmt n) → row_uses a row ≡ list_any (stmt_uses a)
    (items-the_row-Stmt n row)
uses_list a n end_of-Stmt = refl
uses_list a n (more_of-Stmt first rest) = ap (λ b. stmt_uses a first || b) (uses_list a _ rest)

uses_row : (a : ℕ) (row : StmtRow) (all : List Stmt) → items-the_row-Stmt row.0 row.1 ≡ all →
    row_uses a row.1 ≡ list_any (stmt_uses a) all
uses_row a row all e = uses_list a row.0 row.1 ∙ ap (λ xs. list_any (stmt_uses a) xs) e

pub uses_Block : (a : ℕ) (all : Vec Stmt Global) → stmt_uses a (Block all) ≡ list_any (stmt_uses a) all.items
uses_Block a all = uses_row a (first_row (Block all)) all.items (items_hidden-the_row-Stmt-0 all)

pub uses_Loop : (a : ℕ) (b : Bounds) (all : Vec Stmt Global) → stmt_uses a (Loop b all)
    ≡ list_any (stmt_uses a) all.items
uses_Loop a b all = uses_row a (first_row (Loop b all)) all.items (items_hidden-the_row-Stmt-0 all)

pub uses_If : (a : ℕ) (c : Expr) (all other : Vec Stmt Global) → stmt_uses a (If c all other)
    ≡ (expr_uses a c || (list_any (stmt_uses a) all.items || list_any (stmt_uses a) other.items))
uses_If a c all other =
    ap₂ (λ x y. expr_uses a c || (x || y))
    (uses_row a (first_row (If c all other)) all.items (items_hidden-the_row-Stmt-0 all))
    (uses_row a (second_row (If c all other)) other.items (items_hidden-the_row-Stmt-0 other))

pub uses_in_Loop : (a : ℕ) (s : Stmt) (b : Bounds) (all : Vec Stmt Global) (xs : List Stmt) (r : Bool) →
    s ≡ Loop b all → xs ≡ all.items → r ≡ list_any (stmt_uses a) xs → r ≡ stmt_uses a s
uses_in_Loop a s b all xs r is xs_is r_is =
    r_is ∙ ap (λ ys. list_any (stmt_uses a) ys) xs_is ∙ sym (uses_Loop a b all) ∙ ap (λ t. stmt_uses a t) (sym is)

pub uses_in_If : (a : ℕ) (s : Stmt) (c : Expr) (all other : Vec Stmt Global) (xs ys : List Stmt) (p q r : Bool) →
    s ≡ If c all other → xs ≡ all.items → ys ≡ other.items →
    p ≡ expr_uses a c → q ≡ list_any (stmt_uses a) xs → r ≡ list_any (stmt_uses a) ys →
    ((p || q) || r) ≡ stmt_uses a s
uses_in_If a s c all other xs ys p q r is xs_is ys_is p_is q_is r_is =
    or_assoc p q r
    ∙ (λ i. p_is i || ((q_is ∙ ap (λ zs. list_any (stmt_uses a) zs) xs_is) i
    || (r_is ∙ ap (λ zs. list_any (stmt_uses a) zs) ys_is) i))
    ∙ sym (uses_If a c all other) ∙ ap (λ t. stmt_uses a t) (sym is)

reads_list : (x : ℕ) (n : Count) (row : Row_of-Stmt n) → row_reads x row ≡ list_any (stmt_reads x)
    (items-the_row-Stmt n row)
reads_list x n end_of-Stmt = refl
reads_list x n (more_of-Stmt first rest) = ap (λ b. stmt_reads x first || b) (reads_list x _ rest)

reads_row : (x : ℕ) (row : StmtRow) (all : List Stmt) → items-the_row-Stmt row.0 row.1 ≡ all →
    row_reads x row.1 ≡ list_any (stmt_reads x) all
reads_row x row all e = reads_list x row.0 row.1 ∙ ap (λ xs. list_any (stmt_reads x) xs) e

pub reads_Block : (x : ℕ) (all : Vec Stmt Global) → stmt_reads x (Block all) ≡ list_any (stmt_reads x) all.items
reads_Block x all = reads_row x (first_row (Block all)) all.items (items_hidden-the_row-Stmt-0 all)

pub reads_Loop : (x : ℕ) (b : Bounds) (all : Vec Stmt Global) → stmt_reads x (Loop b all)
    ≡ list_any (stmt_reads x) all.items
reads_Loop x b all = reads_row x (first_row (Loop b all)) all.items (items_hidden-the_row-Stmt-0 all)

pub reads_If : (x : ℕ) (c : Expr) (all other : Vec Stmt Global) → stmt_reads x (If c all other)
    ≡ (expr_reads x c || (list_any (stmt_reads x) all.items || list_any (stmt_reads x) other.items))
reads_If x c all other =
    ap₂ (λ p q. expr_reads x c || (p || q))
    (reads_row x (first_row (If c all other)) all.items (items_hidden-the_row-Stmt-0 all))
    (reads_row x (second_row (If c all other)) other.items (items_hidden-the_row-Stmt-0 other))

pub reads_in_Loop : (x : ℕ) (s : Stmt) (b : Bounds) (all : Vec Stmt Global) (xs : List Stmt) (r : Bool) →
    s ≡ Loop b all → xs ≡ all.items → r ≡ list_any (stmt_reads x) xs → r ≡ stmt_reads x s
reads_in_Loop x s b all xs r is xs_is r_is =
    r_is ∙ ap (λ ys. list_any (stmt_reads x) ys) xs_is ∙ sym (reads_Loop x b all) ∙ ap (λ t. stmt_reads x t) (sym is)

pub reads_in_If : (x : ℕ) (s : Stmt) (c : Expr) (all other : Vec Stmt Global) (xs ys : List Stmt) (p q r : Bool) →
    s ≡ If c all other → xs ≡ all.items → ys ≡ other.items →
    p ≡ expr_reads x c → q ≡ list_any (stmt_reads x) xs → r ≡ list_any (stmt_reads x) ys →
    ((p || q) || r) ≡ stmt_reads x s
reads_in_If x s c all other xs ys p q r is xs_is ys_is p_is q_is r_is =
    or_assoc p q r
    ∙ (λ i. p_is i || ((q_is ∙ ap (λ zs. list_any (stmt_reads x) zs) xs_is) i
    || (r_is ∙ ap (λ zs. list_any (stmt_reads x) zs) ys_is) i))
    ∙ sym (reads_If x c all other) ∙ ap (λ t. stmt_reads x t) (sym is)

declares_list : (x : ℕ) (n : Count) (row : Row_of-Stmt n) → row_declares x row ≡ list_any (stmt_declares x)
    (items-the_row-Stmt n row)
declares_list x n end_of-Stmt = refl
declares_list x n (more_of-Stmt first rest) = ap (λ b. stmt_declares x first || b) (declares_list x _ rest)

declares_row : (x : ℕ) (row : StmtRow) (all : List Stmt) → items-the_row-Stmt row.0 row.1 ≡ all →
    row_declares x row.1 ≡ list_any (stmt_declares x) all
declares_row x row all e = declares_list x row.0 row.1 ∙ ap (λ xs. list_any (stmt_declares x) xs) e

pub declares_Block : (x : ℕ) (all : Vec Stmt Global) → stmt_declares x (Block all)
    ≡ list_any (stmt_declares x) all.items
declares_Block x all = declares_row x (first_row (Block all)) all.items (items_hidden-the_row-Stmt-0 all)

pub declares_Loop : (x : ℕ) (b : Bounds) (all : Vec Stmt Global) → stmt_declares x (Loop b all)
    ≡ list_any (stmt_declares x) all.items
declares_Loop x b all = declares_row x (first_row (Loop b all)) all.items (items_hidden-the_row-Stmt-0 all)

pub declares_If : (x : ℕ) (c : Expr) (all other : Vec Stmt Global) → stmt_declares x (If c all other)
    ≡ (list_any (stmt_declares x) all.items || list_any (stmt_declares x) other.items)
declares_If x c all other =
    ap₂ (λ p q. p || q)
    (declares_row x (first_row (If c all other)) all.items (items_hidden-the_row-Stmt-0 all))
    (declares_row x (second_row (If c all other)) other.items (items_hidden-the_row-Stmt-0 other))

pub declares_in_Loop : (x : ℕ) (s : Stmt) (b : Bounds) (all : Vec Stmt Global) (xs : List Stmt) (r : Bool) →
    s ≡ Loop b all → xs ≡ all.items → r ≡ list_any (stmt_declares x) xs → r ≡ stmt_declares x s
declares_in_Loop x s b all xs r is xs_is r_is =
    r_is ∙ ap (λ ys. list_any (stmt_declares x) ys) xs_is ∙ sym (declares_Loop x b all)
    ∙ ap (λ t. stmt_declares x t) (sym is)

pub declares_in_If : (x : ℕ) (s : Stmt) (c : Expr) (all other : Vec Stmt Global) (xs ys : List Stmt) (q r : Bool) →
    s ≡ If c all other → xs ≡ all.items → ys ≡ other.items →
    q ≡ list_any (stmt_declares x) xs → r ≡ list_any (stmt_declares x) ys →
    (q || r) ≡ stmt_declares x s
declares_in_If x s c all other xs ys q r is xs_is ys_is q_is r_is =
    (λ i. (q_is ∙ ap (λ zs. list_any (stmt_declares x) zs) xs_is) i
    || (r_is ∙ ap (λ zs. list_any (stmt_declares x) zs) ys_is) i)
    ∙ sym (declares_If x c all other) ∙ ap (λ t. stmt_declares x t) (sym is)
