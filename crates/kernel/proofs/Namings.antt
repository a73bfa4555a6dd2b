-- The scalars of statements that stand in a vector.
use Rattle.std.proofs.Common.{◌≡◌, ℕ, ◌+◌, ◌<◌, ◌≤◌, List, ◌∷◌, length, drop, get_or, sym, ap, ◌∙◌, subst, Vec, Global}
use Rattle.std.proofs.lemmas.List.{drop_more, drop_all}
use mathlib.Core.Former.{Count}
use Rattle.base.specs.declared.tree.Expr.{Expr}
use Rattle.base.specs.declared.tree.Bounds.{Bounds}
use Rattle.base.specs.declared.tree.Stmt.{Stmt, Block, Loop, If, Row_of-Stmt, end_of-Stmt, more_of-Stmt, items-the_row-Stmt, items_hidden-the_row-Stmt-0}
use Rattle.base.proofs.StmtRows.{first_row, second_row}
use Rattle.kernel.specs.Named.{AreNamed, IsNamed, IsRowNamed, IsStmtNamed}

-- the statements before a place are named: all are, where those from there on are
abbrev pub AreSomeNamed : List Stmt → ℕ → Type 0
AreSomeNamed all k = AreNamed (drop k all) → AreNamed all

pub none_named : (all : List Stmt) → AreSomeNamed all 0
none_named all h = h

pub one_named : (all : List Stmt) (k : ℕ) (s : Stmt) → k < length all → s ≡ get_or all k s → IsStmtNamed s →
    AreSomeNamed all k → AreSomeNamed all (k + 1)
one_named all k s lt is named h rest =
    let first : drop k all ≡ s ∷ drop (k + 1) all = drop_more all k s lt ∙ ap (λ (x : Stmt). x ∷ drop (k + 1) all) (sym is) in
    h (subst (λ (xs : List Stmt). AreNamed xs) (sym first) (named, rest))

pub all_named : (all : List Stmt) (k : ℕ) → length all ≤ k → AreSomeNamed all k → AreNamed all
all_named all k le h = h (subst (λ (xs : List Stmt). AreNamed xs) (sym (drop_all k all le)) tt)

row_is_list : (n : Count) (row : Row_of-Stmt n) → AreNamed (items-the_row-Stmt n row) → IsRowNamed row
row_is_list n end_of-Stmt h = tt
row_is_list n (more_of-Stmt first rest) h = (h.0, row_is_list _ rest h.1)

row_is : (row : (n : Count) × Row_of-Stmt n) (all : List Stmt) → items-the_row-Stmt row.0 row.1 ≡ all → AreNamed all →
    IsRowNamed row.1
row_is row all e h = row_is_list row.0 row.1 (subst (λ (xs : List Stmt). AreNamed xs) (sym e) h)

pub named_Block : (all : Vec Stmt Global) (s : Stmt) → s ≡ Block all → AreNamed all.items → IsStmtNamed s
named_Block all s is h =
    subst (λ (x : Stmt). IsStmtNamed x) (sym is) (row_is (first_row (Block all)) all.items (items_hidden-the_row-Stmt-0 all) h)

pub named_Loop : (b : Bounds) (all : Vec Stmt Global) (s : Stmt) → s ≡ Loop b all → AreNamed all.items → IsStmtNamed s
named_Loop b all s is h =
    subst (λ (x : Stmt). IsStmtNamed x) (sym is) (row_is (first_row (Loop b all)) all.items (items_hidden-the_row-Stmt-0 all) h)

pub named_If : (c : Expr) (all other : Vec Stmt Global) (s : Stmt) → s ≡ If c all other → IsNamed c → AreNamed all.items →
    AreNamed other.items → IsStmtNamed s
named_If c all other s is h h1 h2 =
    subst (λ (x : Stmt). IsStmtNamed x) (sym is) (
      h,
      row_is (first_row (If c all other)) all.items (items_hidden-the_row-Stmt-0 all) h1,
      row_is (second_row (If c all other)) other.items (items_hidden-the_row-Stmt-0 other) h2,
    )

pub same_named : (xs ys : List Stmt) → xs ≡ ys → AreNamed xs → AreNamed ys
same_named xs ys e h = subst (λ (zs : List Stmt). AreNamed zs) e h
