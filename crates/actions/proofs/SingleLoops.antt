-- The loop that is all of some statements.
use Rattle.std.proofs.Common.{◌≡◌, ℕ, zero, suc, List, [], ◌∷◌, Some, None, length, refl, ap, sym, ◌∙◌, arith, Vec, Global}
use mathlib.Core.Former.{Count}
use Rattle.base.specs.declared.tree.Bounds.{Bounds}
use Rattle.base.specs.declared.tree.Stmt.{Stmt, Loop, Row_of-Stmt, end_of-Stmt, more_of-Stmt, items-the_row-Stmt, items_hidden-the_row-Stmt-0}
use Rattle.base.specs.Turns.{listed, loop_of, only_loop, turns_at}
use Rattle.base.proofs.StmtRows.{StmtRow, first_row}

-- The loop that is all of some statements.

listed_is : (n : Count) (row : Row_of-Stmt n) → listed row ≡ items-the_row-Stmt n row
listed_is n end_of-Stmt = refl
listed_is n (more_of-Stmt first rest) = ap (λ xs. first ∷ xs) (listed_is _ rest)

row_is : (row : StmtRow) (all : List Stmt) → items-the_row-Stmt row.0 row.1 ≡ all → listed row.1 ≡ all
row_is row all e = listed_is row.0 row.1 ∙ e

loop_is : (b : Bounds) (all : Vec Stmt Global) → loop_of (Loop b all) ≡ Some (b, all.items)
loop_is b all = ap (λ xs. Some (b, xs)) (row_is (first_row (Loop b all)) all.items (items_hidden-the_row-Stmt-0 all))

pub single_loop : (body : List Stmt) (s : Stmt) (b : Bounds) (all : Vec Stmt Global) (xs : List Stmt) →
    body ≡ s ∷ [] → s ≡ Loop b all → xs ≡ all.items → only_loop body ≡ Some (b, xs)
single_loop body s b all xs is s_is xs_is =
    ap only_loop is ∙ ap loop_of s_is ∙ loop_is b all ∙ ap (λ ys. Some (b, ys)) (sym xs_is)

pub not_single : (body : List Stmt) → (length body ≡ 1 → ⊥) → only_loop body ≡ None
not_single [] other = refl
not_single (s ∷ []) other = absurd (other refl)
not_single (s ∷ t ∷ rest) other = refl

pub single_other : (body : List Stmt) (s : Stmt) → body ≡ s ∷ [] → loop_of s ≡ None → only_loop body ≡ None
single_other body s is none = ap only_loop is ∙ none

pub single_at : (xs : List Stmt) (d : Stmt) → length xs ≡ 1 → xs ≡ elim xs [ [] ↦ d | x ∷ rest ↦ x ] ∷ []
single_at [] d e = absurd (omega (arith, e))
single_at (x ∷ []) d e = refl
single_at (x ∷ y ∷ rest) d e = absurd (omega (arith, e))

-- statements that are one turn
pub one_turn : (d : ℕ) (body : List Stmt) (loops : List ℕ) → only_loop body ≡ None →
    turns_at d body loops ≡ record { loops = loops; body = body } ∷ []
one_turn zero body loops none = refl
one_turn (suc d) body loops none = rw (none, turns_at) refl

pub no_depth : (d : ℕ) (body : List Stmt) (loops : List ℕ) → d ≡ 0 →
    turns_at d body loops ≡ record { loops = loops; body = body } ∷ []
no_depth d body loops e = ap (λ n. turns_at n body loops) e
