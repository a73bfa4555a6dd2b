-- What a region stored in several rows.
use Rattle.std.proofs.Common.{◌≡◌, ◌≢◌, ℕ, ◌+◌, ◌<◌, ◌≤◌, ◌==◌, Bool, true, false, List, length, Option, Some, None, refl, sym, ap, ◌∙◌, true≢false, arith}
use Rattle.std.specs.Prelude.{nat_lt, option_map, unwrap_or, slice_get, slice_index}
use Rattle.std.proofs.lemmas.Bool.{eqb-true, eq-eqb, ltb-true, ltb-false, lt-ltb, false_from_ne_true}
use Rattle.std.proofs.lemmas.List.{get_or_past}
use Rattle.std.proofs.lemmas.Option.{slice_get_past}
use mathlib.Core.Path.{fun_ext}
use Rattle.base.specs.declared.item.Cell.{Cell}
use Rattle.base.specs.Memory.{Memory, View, is_cell}
use Rattle.base.specs.Map.{Device}
use Rattle.kernel.specs.declared.frames.KeptRow.{KeptRow}
use Rattle.base.specs.Rows.{at_index, if_marked}
use Rattle.kernel.specs.Rows.{cells_stored, marks_kept}
use Rattle.present.specs.Rows.{marked_at, marked_in, with_numbers}
use Rattle.shared_row.specs.Rows.{numbers_in}
use Rattle.frames.specs.Views.{AreCells, with_stored}
use Rattle.frames.proofs.Stores.{none_elsewhere}

-- an array that has a cell is one of the arrays
pub array_there : (lengths : List ℕ) (c : Cell) → is_cell lengths c ≡ true → c.array.0 < length lengths
array_there lengths c h = go (nat_lt c.array.0 (length lengths)) refl
  where
    go : (t : Bool) → nat_lt c.array.0 (length lengths) ≡ t → c.array.0 < length lengths
    go true e = ltb-true c.array.0 (length lengths) e
    go false e =
        let l = ltb-true c.index (slice_index lengths c.array.0) h in
        let none = get_or_past lengths c.array.0 0 (ltb-false c.array.0 (length lengths) e) in
        absurd (omega (arith, l, none))

module _ (rows : List KeptRow) where
  -- what is stored in arrays below n
  abbrev pub stored_upto : ℕ → View
  stored_upto n c = elim (nat_lt c.array.0 n) [ true ↦ cells_stored rows c | false ↦ None ]

  upto_yes : (n : ℕ) (c : Cell) → c.array.0 < n → stored_upto n c ≡ cells_stored rows c
  upto_yes n c l = ap (λ (t : Bool). elim t [ true ↦ cells_stored rows c | false ↦ None ]) (lt-ltb c.array.0 n l)

  upto_no : (n : ℕ) (c : Cell) → n ≤ c.array.0 → stored_upto n c ≡ None
  upto_no n c l = ap (λ (t : Bool). elim t [ true ↦ cells_stored rows c | false ↦ None ])
      (false_from_ne_true (nat_lt c.array.0 n) (λ t. (let m = ltb-true c.array.0 n t in omega arith)))

  by_row : Cell → Option KeptRow → Option ℕ
  by_row c o = elim o [
    | None ↦ None
    | Some r ↦ if_marked (at_index r.first (marks_kept r) c.index) (at_index r.first (numbers_in r.cells) c.index)
  ]

  -- a row is what is stored in its array
  pub row_stored : (r : KeptRow) (c : Cell) → slice_get rows c.array.0 ≡ Some r →
      cells_stored rows c ≡ marked_in (record { 0 = c.array.0 }) r.first (numbers_in r.cells) (marks_kept r) c
  row_stored r c e =
      ap (λ (o : Option KeptRow). elim o [
        | None ↦ None
        | Some r ↦ if_marked (at_index r.first (marks_kept r) c.index) (at_index r.first (numbers_in r.cells) c.index)
      ]) e
      ∙ sym (ap (λ (t : Bool). elim t [ true ↦ marked_at r.first (numbers_in r.cells) (marks_kept r) c.index | false ↦ None ])
      (eq-eqb c.array.0 c.array.0 refl))

  -- one row more: what it stores over what was stored before
  pub upto_more : (n : ℕ) (r : KeptRow) → slice_get rows n ≡ Some r → (c : Cell) → (old : ℕ) →
      unwrap_or (marked_in (record { 0 = n }) r.first (numbers_in r.cells) (marks_kept r) c) (unwrap_or (stored_upto n c) old)
      ≡ unwrap_or (stored_upto (n + 1) c) old
  upto_more n r e c old = go (c.array.0 == n) refl
    where
      go : (t : Bool) → (c.array.0 == n) ≡ t →
          unwrap_or (marked_in (record { 0 = n }) r.first (numbers_in r.cells) (marks_kept r) c) (unwrap_or (stored_upto n c) old)
          ≡ unwrap_or (stored_upto (n + 1) c) old
      go true f =
          let is = eqb-true c.array.0 n f in
          ap (λ o. unwrap_or (marked_in (record { 0 = n }) r.first (numbers_in r.cells) (marks_kept r) c) (unwrap_or o old))
          (upto_no n c (omega arith))
          ∙ ap (λ (m : ℕ). unwrap_or (marked_in (record { 0 = m }) r.first (numbers_in r.cells) (marks_kept r) c) old) (sym is)
          ∙ ap (λ o. unwrap_or o old) (sym (row_stored r c (ap (slice_get rows) is ∙ e)))
          ∙ ap (λ o. unwrap_or o old) (sym (upto_yes (n + 1) c (omega arith)))
      go false f =
          let other : (n ≡ c.array.0) → ⊥ = λ w. true≢false (sym (eq-eqb c.array.0 n (sym w)) ∙ f) in
          ap (λ o. unwrap_or o (unwrap_or (stored_upto n c) old))
          (none_elsewhere (record { 0 = n }) r.first (numbers_in r.cells) (marks_kept r) c other)
          ∙ ap (λ o. unwrap_or o old) (same other (nat_lt c.array.0 n) refl)
        where
          same : ((n ≡ c.array.0) → ⊥) → (t : Bool) → nat_lt c.array.0 n ≡ t → stored_upto n c ≡ stored_upto (n + 1) c
          same other true g =
              let l = ltb-true c.array.0 n g in upto_yes n c l ∙ sym (upto_yes (n + 1) c (omega arith))
          same other false g =
              let l = ltb-false c.array.0 n g in
              let apart : n ≢ c.array.0 = other in
              upto_no n c l ∙ sym (upto_no (n + 1) c (omega arith))

  -- nothing is stored in arrays from n on
  pub upto_all : (n : ℕ) → ((c : Cell) → n ≤ c.array.0 → cells_stored rows c ≡ None) → (c : Cell) →
      stored_upto n c ≡ cells_stored rows c
  upto_all n none c = go (nat_lt c.array.0 n) refl
    where
      go : (t : Bool) → nat_lt c.array.0 n ≡ t → stored_upto n c ≡ cells_stored rows c
      go true e = upto_yes n c (ltb-true c.array.0 n e)
      go false e = let l = ltb-false c.array.0 n e in upto_no n c l ∙ sym (none c l)

  -- past the last row, and in arrays that there are not
  pub none_behind : (n : ℕ) → length rows ≤ n → (c : Cell) → n ≤ c.array.0 → cells_stored rows c ≡ None
  none_behind n l c m =
      ap (λ (o : Option KeptRow). elim o [
        | None ↦ None
        | Some r ↦ if_marked (at_index r.first (marks_kept r) c.index) (at_index r.first (numbers_in r.cells) c.index)
      ]) (slice_get_past rows c.array.0 (omega arith))

  pub none_high : (n : ℕ) → ((c : Cell) (k : ℕ) → cells_stored rows c ≡ Some k → c.array.0 < n) → (c : Cell) →
      n ≤ c.array.0 → cells_stored rows c ≡ None
  none_high n low c l = go (cells_stored rows c) refl
    where
      go : (o : Option ℕ) → cells_stored rows c ≡ o → cells_stored rows c ≡ None
      go None e = e
      go (Some k) e = let m = low c k e in absurd (omega arith)

  -- a row's stored cells are cells of arrays
  pub row_cells : (lengths : List ℕ) (n : ℕ) (r : KeptRow) → slice_get rows n ≡ Some r →
      AreCells lengths (cells_stored rows) →
      AreCells lengths (marked_in (record { 0 = n }) r.first (numbers_in r.cells) (marks_kept r))
  row_cells lengths n r e cells c k f = go (c.array.0 == n) refl
    where
      go : (t : Bool) → (c.array.0 == n) ≡ t → is_cell lengths c ≡ true
      go true g =
          let is = eqb-true c.array.0 n g in
          cells c k (row_stored r c (ap (slice_get rows) is ∙ e)
          ∙ ap (λ (m : ℕ). marked_in (record { 0 = m }) r.first (numbers_in r.cells) (marks_kept r) c) is ∙ f)
      go false g =
          absurd (cc (sym (none_elsewhere (record { 0 = n }) r.first (numbers_in r.cells) (marks_kept r) c
          (λ w. true≢false (sym (eq-eqb c.array.0 n (sym w)) ∙ g))) ∙ f))

  -- the host with one row more
  pub host_more : (n : ℕ) (r : KeptRow) → slice_get rows n ≡ Some r → (old now after : Memory) →
      now ≡ with_stored (stored_upto n) old →
      after ≡ with_stored (marked_in (record { 0 = n }) r.first (numbers_in r.cells) (marks_kept r)) now →
      after ≡ with_stored (stored_upto (n + 1)) old
  host_more n r e old now after f g =
      g ∙ ap (with_stored (marked_in (record { 0 = n }) r.first (numbers_in r.cells) (marks_kept r))) f
      ∙ fun_ext (λ (c : Cell). upto_more n r e c (old c))

  -- and the device
  pub device_more : (n : ℕ) (r : KeptRow) → slice_get rows n ≡ Some r → (d : Device) →
      with_numbers (marked_in (record { 0 = n }) r.first (numbers_in r.cells) (marks_kept r)) (with_numbers (stored_upto n) d)
      ≡ with_numbers (stored_upto (n + 1)) d
  device_more n r e d i = record { blocks = d.blocks; cells = fun_ext (λ (c : Cell). at c (d.cells c)) i }
    where
      at : (c : Cell) (o : Option ℕ) →
          option_map (λ old. unwrap_or (marked_in (record { 0 = n }) r.first (numbers_in r.cells) (marks_kept r) c) old)
          (option_map (λ old. unwrap_or (stored_upto n c) old) o)
          ≡ option_map (λ old. unwrap_or (stored_upto (n + 1) c) old) o
      at c None = refl
      at c (Some old) = ap Some (upto_more n r e c old)
