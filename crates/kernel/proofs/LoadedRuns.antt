-- Cells whose indices are the turns of a block.
use Rattle.std.proofs.Common.{◌≡◌, ℕ, ◌+◌, ◌-◌, ◌<◌, ◌≤◌, true, false, List, length, drop, Option, Some, None, refl, sym, ap, ◌∙◌, arith, subst, length-take, length-drop}
use Rattle.std.specs.Prelude.{IsSome, nat_le, slice_get, slice_index, slice_range, option_and_then}
use Rattle.std.proofs.lemmas.Bool.Decides.{nat_tests}
use Rattle.std.proofs.lemmas.List.{get_or-take, get_or-drop}
use Rattle.std.proofs.lemmas.Option.{slice_get-get_or, slice_get_within}
use Rattle.base.specs.declared.tree.ArrayId.{ArrayId}
use Rattle.base.specs.declared.tree.Expr.{Expr}
use Rattle.base.specs.Rows.{at_index}
use Rattle.lanes.specs.Apart.{is_turn}
use Rattle.lanes.proofs.Deltas.{turn_value}
use Rattle.kernel.specs.Rows.{cells_kept}
use Rattle.kernel.specs.Lanes.{Agrees, IsRun, cell_of, names_of}
use Rattle.kernel.specs.Rows.{Parts}
use Rattle.kernel.specs.declared.turns.Reads.{Reads}
use Rattle.kernel.proofs.Agreements.{agrees_same}
use Rattle.kernel.proofs.Runs.{AllThere, HasRun}

from_below : (from first k : ℕ) → from ≤ first → nat_le from (first + k) ≡ true
from_below from first k h = grind (arith, nat_tests)

part_at : (xs : List ℕ) (at n k : ℕ) → k < n → slice_index (slice_range xs at (at + n)) k ≡ slice_index xs (at + k)
part_at xs at n k h =
    let size : at + n - at ≡ n = omega arith in
    get_or-take (at + n - at) (drop at xs) k 0 (omega (arith, h, size)) ∙ get_or-drop at xs k 0

-- a run of a row has what the row has
pub loaded_run : (rows : List Parts) (a : ArrayId) (first n : ℕ) (r : Parts) → HasRun rows a.0 first n r → (k : ℕ) → k < n →
    cells_kept rows (record { array = a; index = first + k })
    ≡ Some (slice_index (slice_range r.1 (first - r.0) (first - r.0 + n)) k)
loaded_run rows a first n r has k h =
    let low = has.from in
    let fits = has.fits in
    let place : first + k - r.0 ≡ first - r.0 + k = omega arith in
    let inside : first - r.0 + k < length r.1 = omega arith in
    ap (λ o. elim o as (λ x. Option ℕ) [ None ↦ None | Some q ↦ at_index q.0 q.1 (first + k) ]) has.is
    ∙ ap (λ b. elim b as (λ x. Option ℕ) [ true ↦ slice_get r.1 (first + k - r.0) | false ↦ None ])
    (from_below r.0 first k low)
    ∙ ap (slice_get r.1) place
    ∙ slice_get-get_or r.1 (first - r.0 + k) 0 inside
    ∙ ap Some (sym (part_at r.1 (first - r.0) n k h))

-- a cell whose subscript is the turn
pub turn_cell : (a : ArrayId) (e : Expr) (b : Reads) (k : ℕ) → is_turn (length b.at.now.outer.now) e ≡ true →
    cell_of a e (names_of b k) ≡ cells_kept b.rows.now (record { array = a; index = b.at.now.first + k })
turn_cell a e b k h =
    ap (option_and_then (λ i. cells_kept b.rows.now (record { array = a; index = i })))
    (turn_value b.at.now.outer.now (b.at.now.first + k) e (names_of b k) refl h)

pub turn_agrees : (a : ArrayId) (e : Expr) (b : Reads) (k y : ℕ) → is_turn (length b.at.now.outer.now) e ≡ true →
    Agrees (cells_kept b.rows.now (record { array = a; index = b.at.now.first + k })) y → Agrees (cell_of a e (names_of b k)) y
turn_agrees a e b k y h there = subst (λ (o : Option ℕ). Agrees o y) (sym (turn_cell a e b k h)) there

-- the cells of a part of a row
pub part_is_run : (rows : List Parts) (a : ArrayId) (first n : ℕ) (r : Parts) → slice_get rows a.0 ≡ Some r → r.0 ≤ first →
    first - r.0 + n ≤ length r.1 →
    IsRun (cells_kept rows) a first n (slice_range r.1 (first - r.0) (first - r.0 + n))
part_is_run rows a first n r is low fits =
    let has : HasRun rows a.0 first n r = record { within = slice_get_within rows a.0 r is; is = is; from = low; fits = fits } in
    record {
      size = simp (length-take, length-drop) (omega arith);
      each = λ k lt. agrees_same _ _ _ (loaded_run rows a first n r has k lt) refl;
    }

-- a run of cells that a row has is there
pub run_there : (rows : List Parts) (a : ArrayId) (first n : ℕ) (r : Parts) → slice_get rows a.0 ≡ Some r → r.0 ≤ first →
    first - r.0 + n ≤ length r.1 → AllThere rows a first n
run_there rows a first n r is low fits k lt =
    subst (λ (o : Option ℕ). IsSome o)
    (sym (loaded_run rows a first n r (record { within = slice_get_within rows a.0 r is; is = is; from = low; fits = fits }) k lt)) refl
