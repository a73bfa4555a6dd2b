-- The turns of statements that stand in a vector.
use Rattle.std.proofs.Common.{◌≡◌, ℕ, zero, suc, ◌+◌, ◌*◌, ◌<◌, ◌≤◌, min, List, ◌∷◌, refl, sym, ap, ap₂, ◌∙◌, ⊎_elim, Vec, Global, arith}
use Rattle.std.proofs.Math.Nat.{zero-mul, suc-mul}
use Rattle.std.proofs.lemmas.Bool.{cases_lt}
use Rattle.std.specs.Prelude.{sum_by}
use Rattle.std.proofs.lemmas.List.Sums.{sum_by-cons}
use mathlib.Core.Former.{Count}
use Rattle.base.specs.declared.tree.Expr.{Expr}
use Rattle.base.specs.declared.tree.Bounds.{Bounds}
use Rattle.base.specs.declared.tree.Stmt.{Stmt, Block, Loop, If, Row_of-Stmt, end_of-Stmt, more_of-Stmt, items-the_row-Stmt, items_hidden-the_row-Stmt-0}
use Rattle.base.specs.Meaning.{turns_of}
use Rattle.base.specs.Footprint.{stmt_turns, row_turns}
use Rattle.ranges.specs.Seen.{list_turns}
use Rattle.base.proofs.StmtRows.{first_row, second_row}

sum_from : (f : Stmt → ℕ) (first : Stmt) (rest : List Stmt) → sum_by f (first ∷ rest) ≡ f first + sum_by f rest
sum_from f first rest = sum_by-cons f first rest

turns_are_list : (n : Count) (row : Row_of-Stmt n) → row_turns row ≡ list_turns (items-the_row-Stmt n row)
turns_are_list n end_of-Stmt = refl
turns_are_list n (more_of-Stmt first rest) =
    ap (λ m. stmt_turns first + m) (turns_are_list _ rest) ∙ sym (sum_from stmt_turns first (items-the_row-Stmt _ rest))

turns_are : (row : (n : Count) × Row_of-Stmt n) (all : List Stmt) → items-the_row-Stmt row.0 row.1 ≡ all → row_turns
    row.1 ≡ list_turns all
turns_are row all e = turns_are_list row.0 row.1 ∙ ap (λ xs. list_turns xs) e

pub turns_Block : (all : Vec Stmt Global) → stmt_turns (Block all) ≡ list_turns all.items
turns_Block all = turns_are (first_row (Block all)) all.items (items_hidden-the_row-Stmt-0 all)

pub turns_Loop : (b : Bounds) (all : Vec Stmt Global) → stmt_turns (Loop b all) ≡ turns_of b *
    (1 + list_turns all.items)
turns_Loop b all = ap (λ n. turns_of b * (1 + n)) (turns_are (first_row (Loop b all)) all.items
    (items_hidden-the_row-Stmt-0 all))

pub turns_If : (c : Expr) (all other : Vec Stmt Global) → stmt_turns (If c all other) ≡ list_turns all.items +
    list_turns other.items
turns_If c all other =
    ap₂ (λ m n. m + n) (turns_are (first_row (If c all other)) all.items (items_hidden-the_row-Stmt-0 all))
    (turns_are (second_row (If c all other)) other.items (items_hidden-the_row-Stmt-0 other))

-- a product of numbers that are kept as a most
pub least_product : (t r m : ℕ) → min (t * min (min r m + 1) m) m ≡ min (t * (1 + r)) m
least_product zero r m = ap (λ x. min x m) (zero-mul (min (min r m + 1) m) ∙ sym (zero-mul (1 + r)))
least_product (suc t) r m = ⊎_elim large small (cases_lt m (r + 1))
  where
    small : r + 1 ≤ m → min (suc t * min (min r m + 1) m) m ≡ min (suc t * (1 + r)) m
    small h = let e : min (min r m + 1) m ≡ 1 + r = omega arith in ap (λ x. min (suc t * x) m) e

    times : (k x : ℕ) → x ≤ suc k * x
    times k x = omega (arith, suc-mul k x)

    large : m < r + 1 → min (suc t * min (min r m + 1) m) m ≡ min (suc t * (1 + r)) m
    large h =
        let e : min (min r m + 1) m ≡ m = omega arith in
        let left : min (suc t * m) m ≡ m = omega (arith, times t m) in
        let right : min (suc t * (1 + r)) m ≡ m = omega (arith, times t (1 + r)) in
        ap (λ x. min (suc t * x) m) e ∙ left ∙ sym right

pub least_sum : (a b m : ℕ) → min (min a m + min b m) m ≡ min (a + b) m
least_sum a b m = omega arith
