-- Which scalars the statements of a vector assign and need.
use Rattle.std.proofs.Common.{◌≡◌, ℕ, suc, ◌+◌, ◌<◌, Bool, true, false, List, ◌++◌, refl, sym, ap, ap₂, ◌∙◌, Vec, Global, drop, length, get_or, add-one, drop-cons}
use Rattle.std.specs.Prelude.{not, ◌&&◌, ◌||◌}
use Rattle.std.specs.List.{list_any}
use Rattle.std.proofs.lemmas.List.Folds.{list_any-append}
use mathlib.Core.Former.{Count}
use Rattle.base.specs.declared.tree.Bounds.{Bounds}
use Rattle.base.specs.declared.tree.Expr.{Expr}
use Rattle.base.specs.declared.tree.Stmt.{Stmt, Block, Loop, If, Row_of-Stmt, end_of-Stmt, more_of-Stmt, items-the_row-Stmt, items_hidden-the_row-Stmt-0}
use Rattle.base.proofs.StmtRows.{first_row, second_row}
use Rattle.base.specs.ScalarUse.{expr_reads, list_assigned, list_needs, row_assigned, row_needs, sets, stmt_assigned, stmt_needs}

needs_row : (x : ℕ) (n : Count) (row : Row_of-Stmt n) → row_needs x row ≡ list_needs x (items-the_row-Stmt n row)
needs_row x n end_of-Stmt = refl
needs_row x n (more_of-Stmt first rest) =
    ap (λ (b : Bool). stmt_needs x first || (not (sets x first) && b)) (needs_row x _ rest)

needs_items : (x : ℕ) (row : (n : Count) × Row_of-Stmt n) (all : List Stmt) → items-the_row-Stmt row.0 row.1 ≡ all →
    row_needs x row.1 ≡ list_needs x all
needs_items x row all e = needs_row x row.0 row.1 ∙ ap (list_needs x) e

pub needs_Block : (x : ℕ) (all : Vec Stmt Global) → stmt_needs x (Block all) ≡ list_needs x all.items
needs_Block x all = needs_items x (first_row (Block all)) all.items (items_hidden-the_row-Stmt-0 all)

pub needs_Loop : (x : ℕ) (b : Bounds) (all : Vec Stmt Global) → stmt_needs x (Loop b all) ≡ list_needs x all.items
needs_Loop x b all = needs_items x (first_row (Loop b all)) all.items (items_hidden-the_row-Stmt-0 all)

pub needs_If : (x : ℕ) (c : Expr) (all other : Vec Stmt Global) →
    stmt_needs x (If c all other) ≡ (expr_reads x c || (list_needs x all.items || list_needs x other.items))
needs_If x c all other =
    ap₂ (λ (a b : Bool). expr_reads x c || (a || b))
    (needs_items x (first_row (If c all other)) all.items (items_hidden-the_row-Stmt-0 all))
    (needs_items x (second_row (If c all other)) other.items (items_hidden-the_row-Stmt-0 other))

module _ (x : ℕ) (s : Stmt) (c : Expr) (all other : Vec Stmt Global) (is : s ≡ If c all other) (xs : List Stmt)
    (xs_is : xs ≡ all.items) (e a : Bool) (e_is : e ≡ expr_reads x c) (a_is : a ≡ list_needs x xs) (not_there : e ≡ false) where
  needs_whole : stmt_needs x s ≡ (e || (a || list_needs x other.items))
  needs_whole =
      ap (stmt_needs x) is ∙ needs_If x c all other
      ∙ ap (λ (b : Bool). b || (list_needs x all.items || list_needs x other.items)) (sym e_is)
      ∙ ap (λ (b : Bool). e || (b || list_needs x other.items)) (sym (a_is ∙ ap (list_needs x) xs_is))

  -- the condition needs it not, and the first branch does
  pub needs_first : a ≡ true → a ≡ stmt_needs x s
  needs_first needed =
      needed
      ∙ sym (needs_whole ∙ ap (λ (b : Bool). b || (a || list_needs x other.items)) not_there
      ∙ ap (λ (b : Bool). b || list_needs x other.items) needed)

  -- nor does that
  pub needs_second : (ys : List Stmt) (b : Bool) → ys ≡ other.items → a ≡ false → b ≡ list_needs x ys → b ≡ stmt_needs x s
  needs_second ys b ys_is never b_is =
      b_is ∙ ap (list_needs x) ys_is
      ∙ sym (needs_whole ∙ ap (λ (d : Bool). d || (a || list_needs x other.items)) not_there
      ∙ ap (λ (d : Bool). d || list_needs x other.items) never)

pub needs_next : (x : ℕ) (all : List Stmt) (k : ℕ) (s : Stmt) → k < length all → s ≡ get_or all k s →
    list_needs x (drop k all) ≡ (stmt_needs x s || (not (sets x s) && list_needs x (drop (k + 1) all)))
needs_next x all k s h e =
    ap (list_needs x) (drop-cons all k s h)
    ∙ ap (λ t. stmt_needs x t || (not (sets x t) && list_needs x (drop (suc k) all))) (sym e)
    ∙ ap (λ n. stmt_needs x s || (not (sets x s) && list_needs x (drop n all))) (sym (add-one k))

assigned_row : (n : Count) (row : Row_of-Stmt n) → row_assigned row ≡ list_assigned (items-the_row-Stmt n row)
assigned_row n end_of-Stmt = refl
assigned_row n (more_of-Stmt first rest) = ap (λ xs. stmt_assigned first ++ xs) (assigned_row _ rest)

assigned_items : (row : (n : Count) × Row_of-Stmt n) (all : List Stmt) → items-the_row-Stmt row.0 row.1 ≡ all →
    row_assigned row.1 ≡ list_assigned all
assigned_items row all e = assigned_row row.0 row.1 ∙ ap list_assigned e

pub assigned_Block : (all : Vec Stmt Global) → stmt_assigned (Block all) ≡ list_assigned all.items
assigned_Block all = assigned_items (first_row (Block all)) all.items (items_hidden-the_row-Stmt-0 all)

pub assigned_Loop : (b : Bounds) (all : Vec Stmt Global) → stmt_assigned (Loop b all) ≡ list_assigned all.items
assigned_Loop b all = assigned_items (first_row (Loop b all)) all.items (items_hidden-the_row-Stmt-0 all)

pub assigned_If : (c : Expr) (all other : Vec Stmt Global) →
    stmt_assigned (If c all other) ≡ list_assigned all.items ++ list_assigned other.items
assigned_If c all other =
    ap₂ (λ (xs ys : List ℕ). xs ++ ys)
    (assigned_items (first_row (If c all other)) all.items (items_hidden-the_row-Stmt-0 all))
    (assigned_items (second_row (If c all other)) other.items (items_hidden-the_row-Stmt-0 other))

pub given_If : (f : ℕ → Bool) (c : Expr) (all other : Vec Stmt Global) →
    list_any f (stmt_assigned (If c all other)) ≡ (list_any f (list_assigned all.items) || list_any f (list_assigned other.items))
given_If f c all other =
    ap (list_any f) (assigned_If c all other) ∙ list_any-append f (list_assigned all.items) (list_assigned other.items)

module _ (f : ℕ → Bool) (s : Stmt) (c : Expr) (all other : Vec Stmt Global) (is : s ≡ If c all other) (xs : List Stmt)
    (xs_is : xs ≡ all.items) (a : Bool) (a_is : a ≡ list_any f (list_assigned xs)) where
  given_whole : list_any f (stmt_assigned s) ≡ (a || list_any f (list_assigned other.items))
  given_whole =
      ap (λ t. list_any f (stmt_assigned t)) is ∙ given_If f c all other
      ∙ ap (λ (b : Bool). b || list_any f (list_assigned other.items))
      (sym (a_is ∙ ap (λ ys. list_any f (list_assigned ys)) xs_is))

  pub given_first : a ≡ true → a ≡ list_any f (stmt_assigned s)
  given_first needed =
      needed ∙ sym (given_whole ∙ ap (λ (b : Bool). b || list_any f (list_assigned other.items)) needed)

  pub given_second : (ys : List Stmt) (b : Bool) → ys ≡ other.items → a ≡ false → b ≡ list_any f (list_assigned ys) →
      b ≡ list_any f (stmt_assigned s)
  given_second ys b ys_is never b_is =
      b_is ∙ ap (λ zs. list_any f (list_assigned zs)) ys_is
      ∙ sym (given_whole ∙ ap (λ (d : Bool). d || list_any f (list_assigned other.items)) never)

pub given_next : (f : ℕ → Bool) (all : List Stmt) (k : ℕ) (s : Stmt) → k < length all → s ≡ get_or all k s →
    list_any f (list_assigned (drop k all))
    ≡ (list_any f (stmt_assigned s) || list_any f (list_assigned (drop (k + 1) all)))
given_next f all k s h e =
    ap (λ xs. list_any f (list_assigned xs)) (drop-cons all k s h)
    ∙ list_any-append f (stmt_assigned (get_or all k s)) (list_assigned (drop (suc k) all))
    ∙ ap (λ t. list_any f (stmt_assigned t) || list_any f (list_assigned (drop (suc k) all))) (sym e)
    ∙ ap (λ n. list_any f (stmt_assigned s) || list_any f (list_assigned (drop n all))) (sym (add-one k))
