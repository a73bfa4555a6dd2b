-- Braces and choices in a walk: their statements one after another.
use Rattle.std.proofs.Common.{◌≡◌, ℕ, zero, suc, List, Option, Some, refl, sym, ap, ap₂, ◌∙◌, subst, Vec, Global}
use Rattle.std.specs.Prelude.{IsSome}
use mathlib.Core.Path.{fun_ext}
use Rattle.base.specs.declared.tree.Expr.{Expr}
use Rattle.base.specs.declared.tree.Stmt.{Stmt, Block, If, items_hidden-the_row-Stmt-0}
use Rattle.base.specs.Memory.{View, Scalars}
use Rattle.base.specs.Meaning.{Run, choose, names_in, run_stmt, run_row, run_list}
use Rattle.base.specs.Value.{Names, value}
use Rattle.base.proofs.StmtRows.{first_row, second_row}
use Rattle.kernel.specs.Machine.{names_of}
use Rattle.kernel.specs.States.{at_rest}
use Rattle.kernel.specs.Walks.{Meaning, At, CanDo, HasDone, choice_meaning, list_meaning, stmt_meaning}
use Rattle.kernel.specs.declared.state.Machine.{Machine}
use Rattle.kernel.proofs.WalkedLoops.{row_is}

-- two meanings that are the same where the machine stands
module _ (f g : Meaning) (m : Machine)
    (same : (view : View) (r : Run) → At view r m → f view m.loops.items r ≡ g view m.loops.items r) where
  same_can : CanDo f m → CanDo g m
  same_can h = (h.0, h.1, h.2, subst (λ (o : Option Run). IsSome o) (same h.0 h.1 h.2) h.3)

  same_done : (m' : Machine) → HasDone g m m' → HasDone f m m'
  same_done m' h = (h.0, λ view r t at e. h.1 view r t at (sym (same view r at) ∙ e))

module _ (s : Stmt) (all : Vec Stmt Global) (xs : List Stmt) (m : Machine) (is : s ≡ Block all) (same : xs ≡ all.items) where
  block_is : (view : View) (r : Run) → At view r m → stmt_meaning s view m.loops.items r ≡ list_meaning xs view m.loops.items r
  block_is view r at =
      ap (λ (t : Stmt). run_stmt t view m.loops.items r) is
      ∙ row_is (first_row (Block all)) all.items (items_hidden-the_row-Stmt-0 all) view m.loops.items r
      ∙ ap (λ (ys : List Stmt). run_list ys view m.loops.items r) (sym same)

  -- braces
  pub block_can : CanDo (stmt_meaning s) m → CanDo (list_meaning xs) m
  block_can h = same_can (stmt_meaning s) (list_meaning xs) m block_is h

  pub block_done : (m' : Machine) → HasDone (list_meaning xs) m m' → HasDone (stmt_meaning s) m m'
  block_done m' h = same_done (stmt_meaning s) (list_meaning xs) m block_is m' h

-- the rows of both branches are lists
branches_are : (c : Expr) (all other : Vec Stmt Global) (view : View) (loops : List ℕ) (r : Run) →
    run_stmt (If c all other) view loops r ≡ choice_meaning c all.items other.items view loops r
branches_are c all other view loops r =
    let o = value c (names_in view loops r) in
    ap (λ (f : Run → Option Run). choose o f (run_row (second_row (If c all other)).1 view loops) r)
    (fun_ext (λ (t : Run). row_is (first_row (If c all other)) all.items (items_hidden-the_row-Stmt-0 all) view loops t))
    ∙ ap (λ (g : Run → Option Run). choose o (run_list all.items view loops) g r)
    (fun_ext (λ (t : Run). row_is (second_row (If c all other)) other.items (items_hidden-the_row-Stmt-0 other) view loops t))

module _ (s : Stmt) (c : Expr) (all other : Vec Stmt Global) (xs ys : List Stmt) (m : Machine) (is : s ≡ If c all other)
    (same : xs ≡ all.items) (same' : ys ≡ other.items) where
  choice_is : (view : View) (r : Run) → At view r m →
      stmt_meaning s view m.loops.items r ≡ choice_meaning c xs ys view m.loops.items r
  choice_is view r at =
      ap (λ (t : Stmt). run_stmt t view m.loops.items r) is
      ∙ branches_are c all other view m.loops.items r
      ∙ ap₂ (λ (us vs : List Stmt). choice_meaning c us vs view m.loops.items r) (sym same) (sym same')

  -- a choice
  pub choice_can : CanDo (stmt_meaning s) m → CanDo (choice_meaning c xs ys) m
  choice_can h = same_can (stmt_meaning s) (choice_meaning c xs ys) m choice_is h

  pub choice_done : (m' : Machine) → HasDone (choice_meaning c xs ys) m m' → HasDone (stmt_meaning s) m m'
  choice_done m' h = same_done (stmt_meaning s) (choice_meaning c xs ys) m choice_is m' h

-- the names of a run are those of the machine that stands there
pub names_are : (m : Machine) (view : View) (r : Run) → At view r m → names_in view m.loops.items r ≡ names_of (at_rest m)
names_are m view r at =
    ap₂ (λ (x : Scalars) (cells : View). let n : Names = record { scalars = x; loops = m.loops.items; cells = cells } in n)
    (sym at.stands.scalars) (sym at.stands.cells)

takes_second : (o : Option ℕ) (n : ℕ) (f g : Run → Option Run) (r : Run) → o ≡ Some n → n ≡ 0 → choose o f g r ≡ g r
takes_second o n f g r e z = ap (λ p. choose p f g r) (e ∙ ap Some z)

takes_first : (o : Option ℕ) (n : ℕ) (f g : Run → Option Run) (r : Run) → o ≡ Some n → (n ≡ 0 → ⊥) → choose o f g r ≡ f r
takes_first o zero f g r e z = absurd (z refl)
takes_first o (suc n) f g r e z = ap (λ p. choose p f g r) e

module _ (c : Expr) (xs ys : List Stmt) (m : Machine) (n : ℕ) (is : value c (names_of (at_rest m)) ≡ Some n) where
  value_is : (view : View) (r : Run) → At view r m → value c (names_in view m.loops.items r) ≡ Some n
  value_is view r at = ap (λ (names : Names). value c names) (names_are m view r at) ∙ is

  second_is : n ≡ 0 → (view : View) (r : Run) → At view r m →
      choice_meaning c xs ys view m.loops.items r ≡ list_meaning ys view m.loops.items r
  second_is z view r at =
      takes_second (value c (names_in view m.loops.items r)) n (run_list xs view m.loops.items) (run_list ys view m.loops.items) r
      (value_is view r at) z

  first_is : (n ≡ 0 → ⊥) → (view : View) (r : Run) → At view r m →
      choice_meaning c xs ys view m.loops.items r ≡ list_meaning xs view m.loops.items r
  first_is z view r at =
      takes_first (value c (names_in view m.loops.items r)) n (run_list xs view m.loops.items) (run_list ys view m.loops.items) r
      (value_is view r at) z

  -- at 0 the second branch, and else the first
  pub second_can : n ≡ 0 → CanDo (choice_meaning c xs ys) m → CanDo (list_meaning ys) m
  second_can z h = same_can (choice_meaning c xs ys) (list_meaning ys) m (second_is z) h

  pub second_done : n ≡ 0 → (m' : Machine) → HasDone (list_meaning ys) m m' → HasDone (choice_meaning c xs ys) m m'
  second_done z m' h = same_done (choice_meaning c xs ys) (list_meaning ys) m (second_is z) m' h

  pub first_can : (n ≡ 0 → ⊥) → CanDo (choice_meaning c xs ys) m → CanDo (list_meaning xs) m
  first_can z h = same_can (choice_meaning c xs ys) (list_meaning xs) m (first_is z) h

  pub first_done : (n ≡ 0 → ⊥) → (m' : Machine) → HasDone (list_meaning xs) m m' → HasDone (choice_meaning c xs ys) m m'
  first_done z m' h = same_done (choice_meaning c xs ys) (list_meaning xs) m (first_is z) m' h
