-- A run of cells of a row that is stored.
use Rattle.std.proofs.Common.{◌≡◌, ℕ, ◌+◌, ◌-◌, ◌<◌, ◌≤◌, ◌==◌, Bool, true, false, List, length, get_or, Option, Some, None, refl, sym, ap, ◌∙◌, arith, if◌then◌else◌, leb-true, eqb-true, subst}
use Rattle.std.specs.Prelude.{slice_get, slice_index, slice_set, nat_le, IsSome, ◌&&◌}
use Rattle.std.proofs.lemmas.Bool.{eqb-false}
use Rattle.std.proofs.lemmas.Option.{slice_get-get_or, slice_get_within, same_Some}
use mathlib.Core.Path.{fun_ext}
use Rattle.base.specs.declared.item.Cell.{Cell}
use Rattle.base.specs.declared.tree.ArrayId.{ArrayId}
use Rattle.base.specs.Rows.{at_index, if_marked}
use Rattle.base.proofs.Places.{get_set_same, get_set_other}
use Rattle.lanes.specs.Apart.{own_value_places, with_lanes}
use Rattle.kernel.specs.Rows.{Parts}
use Rattle.kernel.specs.Rows.{cells_kept}
use Rattle.kernel.specs.Rows.{parts_stored}
use Rattle.kernel.specs.Lanes.{HasPut, IsStoredIn, Over, some_of}
use Rattle.kernel.proofs.Overs.{row_over}

-- a row that has a cell
record Has (rows : List Parts) (c : Cell) (row : Parts) : Type 0 where
  is : slice_get rows c.array.0 ≡ Some row
  from : row.0 ≤ c.index
  inside : c.index - row.0 < length row.1

has_cell : (rows : List Parts) (c : Cell) → IsSome (cells_kept rows c) → (row : Parts) × Has rows c row
has_cell rows c h = by_row (slice_get rows c.array.0) refl h
  where
    by_row : (o : Option Parts) → slice_get rows c.array.0 ≡ o →
        IsSome (elim o as (λ x. Option ℕ) [ None ↦ None | Some r ↦ at_index r.0 r.1 c.index ]) →
        (row : Parts) × Has rows c row
    by_row None e h = absurd cc
    by_row (Some r) e h = by_first (nat_le r.0 c.index) refl h
      where
        by_first : (b : Bool) → nat_le r.0 c.index ≡ b →
            IsSome (elim b as (λ x. Option ℕ) [ true ↦ slice_get r.1 (c.index - r.0) | false ↦ None ]) →
            (row : Parts) × Has rows c row
        by_first false f h = absurd cc
        by_first true f h = (
          r,
          record { is = e; from = leb-true r.0 c.index f; inside = has (slice_get r.1 (c.index - r.0)) refl h },
        )
          where
            has : (o : Option ℕ) → slice_get r.1 (c.index - r.0) ≡ o → IsSome o →
                c.index - r.0 < length r.1
            has None g h = absurd cc
            has (Some x) g h = slice_get_within r.1 (c.index - r.0) x g

-- a row that has a run of cells
pub record HasRun (rows : List Parts) (a : ℕ) (first n : ℕ) (row : Parts) : Type 0 where
  pub within : a < length rows
  pub is : slice_get rows a ≡ Some row
  pub from : row.0 ≤ first
  pub fits : first - row.0 + n ≤ length row.1

abbrev pub AllThere : List Parts → ArrayId → ℕ → ℕ → Type 0
AllThere rows a first n = (k : ℕ) → k < n → IsSome (cells_kept rows (record { array = a; index = first + k }))

pub has_run : (rows : List Parts) (a : ArrayId) (first n : ℕ) (d : Parts) → 0 < n → AllThere rows a first n →
    HasRun rows a.0 first n (get_or rows a.0 d)
has_run rows a first n d some h =
    let p = has_cell rows (record { array = a; index = first + 0 }) (h 0 some) in
    let q = has_cell rows (record { array = a; index = first + (n - 1) }) (h (n - 1) (omega arith)) in
    let w = slice_get_within rows a.0 p.0 p.1.is in
    let e : get_or rows a.0 d ≡ p.0 = same_Some (get_or rows a.0 d) p.0 (sym (slice_get-get_or rows a.0 d w) ∙ p.1.is) in
    let same : q.0 ≡ p.0 = same_Some q.0 p.0 (sym q.1.is ∙ p.1.is) in
    let inside : first + (n - 1) - p.0.0 < length p.0.1 =
    subst (λ (r : Parts). first + (n - 1) - r.0 < length r.1) same q.1.inside in
    let low : p.0.0 ≤ first + 0 = p.1.from in
    subst (λ r. HasRun rows a.0 first n r) (sym e)
    (record { within = w; is = p.1.is; from = omega arith; fits = omega arith })

module _ (rows : List Parts) (a first n : ℕ) (part : ℕ → Bool) (f : ℕ → ℕ) (r w : Parts) (has : HasRun rows a first n r)
    (same_first : w.0 ≡ r.0) (ys : List ℕ) (w_cells : w.1 ≡ ys)
    (cells : Over ℕ part f (first - r.0) n r.1 ys) where
  row_cells : (i : ℕ) →
      at_index w.0 w.1 i ≡ (if some_of part first n i then Some (f (i - first)) else at_index r.0 r.1 i)
  row_cells i =
      (λ j. at_index (same_first j) (w_cells j) i)
      ∙ row_over ℕ part f r.0 first n r.1 ys i has.from cells

  row_of : (c : Cell) (q : Bool) → (a == c.array.0) ≡ q →
      slice_get (slice_set rows a w) c.array.0 ≡ (if q then Some w else slice_get rows c.array.0)
  row_of c true e =
      ap (slice_get (slice_set rows a w)) (sym (eqb-true a c.array.0 e)) ∙ get_set_same rows a w has.within
  row_of c false e = get_set_other rows a w c.array.0 (eqb-false a c.array.0 e)

  pub cells_run : cells_kept (slice_set rows a w) ≡ with_lanes own_value_places (some_of part first n) a (λ v. f (v - first)) (cells_kept rows)
  cells_run = fun_ext (λ (c : Cell). go c (a == c.array.0) refl)
    where
      look : Cell → Option Parts → Option ℕ
      look c o = elim o [ None ↦ None | Some x ↦ at_index x.0 x.1 c.index ]

      go : (c : Cell) (q : Bool) → (a == c.array.0) ≡ q → cells_kept (slice_set rows a w) c
          ≡ (if q && some_of part first n c.index then Some (f (c.index - first)) else cells_kept rows c)
      go c true e =
          ap (look c) (row_of c true e) ∙ row_cells c.index
          ∙ ap (λ o. if some_of part first n c.index then Some (f (c.index - first)) else look c o)
          (sym (ap (slice_get rows) (sym (eqb-true a c.array.0 e)) ∙ has.is))
      go c false e = ap (look c) (row_of c false e)

  module _ (zs : List Bool) (w_marks : w.2 ≡ zs) (marks : Over Bool part (λ k. true) (first - r.0) n r.2 zs) where
    row_marks : (i : ℕ) →
        at_index w.0 w.2 i ≡ (if some_of part first n i then Some true else at_index r.0 r.2 i)
    row_marks i =
        (λ j. at_index (same_first j) (w_marks j) i)
        ∙ row_over Bool part (λ k. true) r.0 first n r.2 zs i has.from marks

    both_marked : (q : Bool) (x : Option Bool) (y : Option ℕ) (v : ℕ) →
        if_marked (if q then Some true else x) (if q then Some v else y) ≡ (if q then Some v else if_marked x y)
    both_marked true x y v = refl
    both_marked false x y v = refl

    pub stored_run : parts_stored (slice_set rows a w) ≡ with_lanes own_value_places (some_of part first n) a (λ v. f (v - first)) (parts_stored rows)
    stored_run = fun_ext (λ (c : Cell). go c (a == c.array.0) refl)
      where
        look : Cell → Option Parts → Option ℕ
        look c o = elim o [
          | None ↦ None
          | Some x ↦ if_marked (at_index x.0 x.2 c.index) (at_index x.0 x.1 c.index)
        ]

        go : (c : Cell) (q : Bool) → (a == c.array.0) ≡ q → parts_stored (slice_set rows a w) c
            ≡ (if q && some_of part first n c.index then Some (f (c.index - first)) else parts_stored rows c)
        go c true e =
            ap (look c) (row_of c true e)
            ∙ (λ i. if_marked (row_marks c.index i) (row_cells c.index i))
            ∙ both_marked (some_of part first n c.index) _ _ (f (c.index - first))
            ∙ ap (λ o. if some_of part first n c.index then Some (f (c.index - first)) else look c o)
            (sym (ap (slice_get rows) (sym (eqb-true a c.array.0 e)) ∙ has.is))
        go c false e = ap (look c) (row_of c false e)

-- numbers that were put in a row, whose first index is this one
module _ (rows : List Parts) (a : ArrayId) (first here : ℕ) (part : ℕ → Bool) (numbers : List ℕ) (d w : Parts) (some : 0 < length numbers)
    (there : AllThere rows a first (length numbers)) (e : here ≡ (get_or rows a.0 d).0)
    (h : HasPut part (first - here) numbers (get_or rows a.0 d) w) where
  abbrev old : Parts
  old = get_or rows a.0 d

  cells : Over ℕ part (slice_index numbers) (first - old.0) (length numbers) old.1 w.1
  cells = subst (λ n. Over ℕ part (slice_index numbers) (first - n) (length numbers) old.1 w.1) e h.cells

  marks : Over Bool part (λ k. true) (first - old.0) (length numbers) old.2 w.2
  marks = subst (λ n. Over Bool part (λ k. true) (first - n) (length numbers) old.2 w.2) e h.marks

  pub cells_put : IsStoredIn part first (length numbers) a.0 (slice_index numbers) (cells_kept rows) (cells_kept (slice_set rows a.0 w))
  cells_put =
      cells_run rows a.0 first (length numbers) part (slice_index numbers) old w (has_run rows a first (length numbers) d some there)
      h.first w.1 refl cells

  pub stored_put : IsStoredIn part first (length numbers) a.0 (slice_index numbers) (parts_stored rows) (parts_stored (slice_set rows a.0 w))
  stored_put =
      stored_run rows a.0 first (length numbers) part (slice_index numbers) old w (has_run rows a first (length numbers) d some there)
      h.first w.1 refl cells w.2 refl marks
