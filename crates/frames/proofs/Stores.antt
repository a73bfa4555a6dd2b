-- What a region stored, as it comes into the memories.
use Rattle.std.proofs.Common.{◌≡◌, ℕ, ◌+◌, ◌-◌, ◌<◌, ◌≤◌, ◌^◌, ◌==◌, Bool, true, false, List, length, get_or, Option, Some, None, refl, sym, ap, ◌∙◌, true≢false, arith, Vec, Global}
use Rattle.std.specs.Prelude.{nat_lt, unwrap_or, slice_get, slice_index, slice_range}
use Rattle.std.proofs.lemmas.Bool.{eqb-true, eq-eqb, ltb-true, ltb-false, lt-ltb, false_from_ne_true}
use Rattle.std.proofs.lemmas.Option.{slice_get-get_or, slice_get_within, get_or_from_slice_get}
use mathlib.Core.Path.{fun_ext}
use Rattle.base.specs.declared.item.Cell.{Cell}
use Rattle.base.specs.declared.item.Section.{Section}
use Rattle.base.specs.declared.tree.ArrayId.{ArrayId}
use Rattle.host_memory.specs.declared.memory.Memory.{Memory as Arrays}
use Rattle.base.specs.Memory.{Memory, View, is_in, within}
use Rattle.host_memory.specs.Arrays.{items_of, row_of}
use Rattle.shared_row.specs.declared.shared.SharedRow.{SharedRow}
use Rattle.shared_row.specs.declared.shared.SharedRow.TheVariants as row
use Rattle.base.specs.Rows.{at_index, if_marked}
use Rattle.present.specs.Rows.{marked_at, marked_in}
use Rattle.base.proofs.Sections.{in_parts, in_from}
use Rattle.present.proofs.Shown.{within_in, within_out}
use Rattle.present.proofs.Copies.{part_at}
use Rattle.present.proofs.RowParts.{at_index_from, at_index_before, at_index_past}
use Rattle.ranges.specs.Reach.{cell_of}
use Rattle.frames.specs.Views.{AreCells, with_stored}

small_vec : (v : Vec ℕ Global) → length v.items < 2 ^ 64
small_vec v = let s = v.small in let o = v.ok in omega (arith, s, o.0, o.1)

pub row_small : (m : Arrays) (a : ℕ) → length (row_of m a) < 2 ^ 64
row_small m a = go (slice_get m.arrays.items a)
  where
    go : (o : Option SharedRow) → length (items_of o) < 2 ^ 64
    go None = omega arith
    go (Some (row.Sole numbers)) = small_vec numbers
    go (Some (row.Shared several)) = small_vec several.row.value

-- Marks.

no_mark : (o : Option ℕ) (m : Option Bool) → m ≡ None → if_marked m o ≡ None
no_mark o m e = ap (λ m. if_marked m o) e

module _ (a : ArrayId) (first : ℕ) (numbers : List ℕ) (marks : List Bool) where
  -- the marked numbers below place i
  abbrev pub stored_below : ℕ → View
  stored_below i c = elim (nat_lt c.index (first + i)) [ true ↦ marked_in a first numbers marks c | false ↦ None ]

  pub none_before : (c : Cell) → c.index < first → marked_in a first numbers marks c ≡ None
  none_before c l = go (a.0 == c.array.0) refl
    where
      go : (t : Bool) → (a.0 == c.array.0) ≡ t → marked_in a first numbers marks c ≡ None
      go true e =
          ap (λ (t : Bool). elim t [ true ↦ marked_at first numbers marks c.index | false ↦ None ]) e
          ∙ no_mark (at_index first numbers c.index) _ (at_index_before first marks c.index l)
      go false e = ap (λ (t : Bool). elim t [ true ↦ marked_at first numbers marks c.index | false ↦ None ]) e

  none_past : (c : Cell) → first + length marks ≤ c.index → marked_in a first numbers marks c ≡ None
  none_past c l = go (a.0 == c.array.0) refl
    where
      go : (t : Bool) → (a.0 == c.array.0) ≡ t → marked_in a first numbers marks c ≡ None
      go true e =
          ap (λ (t : Bool). elim t [ true ↦ marked_at first numbers marks c.index | false ↦ None ]) e
          ∙ no_mark (at_index first numbers c.index) _ (at_index_past first marks c.index l)
      go false e = ap (λ (t : Bool). elim t [ true ↦ marked_at first numbers marks c.index | false ↦ None ]) e

  pub none_elsewhere : (c : Cell) → (a.0 ≡ c.array.0 → ⊥) → marked_in a first numbers marks c ≡ None
  none_elsewhere c other =
      ap (λ (t : Bool). elim t [ true ↦ marked_at first numbers marks c.index | false ↦ None ])
      (false_from_ne_true (a.0 == c.array.0) (λ t. other (eqb-true a.0 c.array.0 t)))

  none_unmarked : (c : Cell) → slice_get marks (c.index - first) ≡ Some false → first ≤ c.index →
      marked_in a first numbers marks c ≡ None
  none_unmarked c off l = go (a.0 == c.array.0) refl
    where
      go : (t : Bool) → (a.0 == c.array.0) ≡ t → marked_in a first numbers marks c ≡ None
      go true e =
          ap (λ (t : Bool). elim t [ true ↦ marked_at first numbers marks c.index | false ↦ None ]) e
          ∙ ap (λ m. if_marked m (at_index first numbers c.index)) (at_index_from first marks c.index l ∙ off)
      go false e = ap (λ (t : Bool). elim t [ true ↦ marked_at first numbers marks c.index | false ↦ None ]) e

  pub some_marked : (c : Cell) → a.0 ≡ c.array.0 → first ≤ c.index → slice_get marks (c.index - first) ≡ Some true →
      marked_in a first numbers marks c ≡ slice_get numbers (c.index - first)
  some_marked c same l on =
      ap (λ (t : Bool). elim t [ true ↦ marked_at first numbers marks c.index | false ↦ None ]) (eq-eqb a.0 c.array.0 same)
      ∙ ap (λ m. if_marked m (at_index first numbers c.index)) (at_index_from first marks c.index l ∙ on)
      ∙ at_index_from first numbers c.index l

  -- a cell below a place, and one that is not
  pub below_yes : (i : ℕ) (c : Cell) → c.index < first + i → stored_below i c ≡ marked_in a first numbers marks c
  below_yes i c l = ap (λ (t : Bool). elim t [ true ↦ marked_in a first numbers marks c | false ↦ None ])
      (lt-ltb c.index (first + i) l)

  pub below_no : (i : ℕ) (c : Cell) → first + i ≤ c.index → stored_below i c ≡ None
  below_no i c l = ap (λ (t : Bool). elim t [ true ↦ marked_in a first numbers marks c | false ↦ None ])
      (false_from_ne_true (nat_lt c.index (first + i)) (λ t. (let m = ltb-true c.index (first + i) t in omega arith)))

  -- a place that is not marked
  pub below_skip : (i : ℕ) → slice_get marks i ≡ Some false → (c : Cell) → stored_below i c ≡ stored_below (i + 1) c
  below_skip i off c = go (nat_lt c.index (first + i)) refl
    where
      go : (t : Bool) → nat_lt c.index (first + i) ≡ t → stored_below i c ≡ stored_below (i + 1) c
      go true e =
          let l = ltb-true c.index (first + i) e in
          below_yes i c l ∙ sym (below_yes (i + 1) c (omega arith))
      go false e = below_no i c (ltb-false c.index (first + i) e) ∙ sym (here (nat_lt c.index (first + (i + 1))) refl)
        where
          here : (t : Bool) → nat_lt c.index (first + (i + 1)) ≡ t → stored_below (i + 1) c ≡ None
          here false f = below_no (i + 1) c (ltb-false c.index (first + (i + 1)) f)
          here true f =
              let l = ltb-true c.index (first + (i + 1)) f in
              let m = ltb-false c.index (first + i) e in
              let is : c.index - first ≡ i = omega arith in
              below_yes (i + 1) c l ∙ none_unmarked c (ap (slice_get marks) is ∙ off) (omega arith)

  -- past the last place all are stored
  pub below_all : (i : ℕ) → length marks ≤ i → (c : Cell) → stored_below i c ≡ marked_in a first numbers marks c
  below_all i past c = go (nat_lt c.index (first + i)) refl
    where
      go : (t : Bool) → nat_lt c.index (first + i) ≡ t → stored_below i c ≡ marked_in a first numbers marks c
      go true e = below_yes i c (ltb-true c.index (first + i) e)
      go false e =
          let l = ltb-false c.index (first + i) e in
          below_no i c l ∙ sym (none_past c (omega arith))

  -- marked places one after another, stored as a section
  module _ (i end : ℕ) (some : i < end) (bound : end ≤ length marks) (long : length marks ≡ length numbers)
      (on : (k : ℕ) → i ≤ k → k < end → slice_get marks k ≡ Some true) (s : Section) (sa : s.array.0 ≡ a.0)
      (sf : s.first ≡ first + i) (sl : s.length ≡ end - i) where
    pub below_run : (old now after : Memory) → now ≡ with_stored (stored_below i) old →
        after ≡ within s (λ c. slice_index (slice_range numbers i end) (c.index - s.first)) now →
        after ≡ with_stored (stored_below end) old
    below_run old now after e f = f ∙ fun_ext (λ (c : Cell). at c (is_in c s) refl)
      where
        at : (c : Cell) (t : Bool) → is_in c s ≡ t →
            within s (λ c. slice_index (slice_range numbers i end) (c.index - s.first)) now c
            ≡ with_stored (stored_below end) old c
        at c true t =
            let p = in_parts c s t in
            let above = p.above in
            let under = p.below in
            let at : i + (c.index - s.first) ≡ c.index - first = omega arith in
            let number = slice_get-get_or numbers (c.index - first) 0 (omega arith) in
            let read = part_at numbers i end (c.index - s.first) (omega arith) ∙ ap (slice_get numbers) at ∙ number in
            within_in s (λ c. slice_index (slice_range numbers i end) (c.index - s.first)) now c t
            ∙ get_or_from_slice_get (slice_range numbers i end) (c.index - s.first) _ 0 read
            ∙ sym (ap (λ o. unwrap_or o (old c))
            (below_yes end c (omega arith)
            ∙ some_marked c (sym sa ∙ sym p.array) (omega arith) (on (c.index - first) (omega arith) (omega arith))
            ∙ number))
        at c false t =
            within_out s (λ c. slice_index (slice_range numbers i end) (c.index - s.first)) now c t
            ∙ ap (λ (m : Memory). m c) e
            ∙ ap (λ o. unwrap_or o (old c)) (outside (a.0 == c.array.0) refl (nat_lt c.index (first + i)) refl)
          where
            outside : (u : Bool) → (a.0 == c.array.0) ≡ u → (v : Bool) → nat_lt c.index (first + i) ≡ v →
                stored_below i c ≡ stored_below end c
            outside u g true h =
                let l = ltb-true c.index (first + i) h in
                below_yes i c l ∙ sym (below_yes end c (omega arith))
            outside false g false h =
                below_no i c (ltb-false c.index (first + i) h) ∙ sym (later (nat_lt c.index (first + end)) refl)
              where
                later : (v : Bool) → nat_lt c.index (first + end) ≡ v → stored_below end c ≡ None
                later false k = below_no end c (ltb-false c.index (first + end) k)
                later true k =
                    below_yes end c (ltb-true c.index (first + end) k)
                    ∙ none_elsewhere c (λ w. true≢false (sym (eq-eqb a.0 c.array.0 w) ∙ g))
            outside true g false h =
                let l = ltb-false c.index (first + i) h in
                below_no i c l ∙ sym (below_no end c (beyond (nat_lt c.index (first + end)) refl))
              where
                beyond : (v : Bool) → nat_lt c.index (first + end) ≡ v → first + end ≤ c.index
                beyond false k = ltb-false c.index (first + end) k
                beyond true k =
                    let m = ltb-true c.index (first + end) k in
                    let l = ltb-false c.index (first + i) h in
                    absurd (true≢false (sym (in_from c s (record {
                      array = sym (eqb-true a.0 c.array.0 g) ∙ sym sa;
                      above = omega arith;
                      below = omega arith;
                    })) ∙ t))

  -- a marked place is a cell of its array
  pub place_there : (lengths : List ℕ) (k : ℕ) → length marks ≡ length numbers → slice_get marks k ≡ Some true →
      AreCells lengths (marked_in a first numbers marks) → first + k < slice_index lengths a.0
  place_there lengths k long on cells =
      let w = slice_get_within marks k true on in
      let at : first + k - first ≡ k = omega arith in
      let number = slice_get-get_or numbers k 0 (omega arith) in
      ltb-true (first + k) (slice_index lengths a.0)
      (cells (cell_of a.0 (first + k)) (get_or numbers k 0)
      (some_marked (cell_of a.0 (first + k)) refl (omega arith) (ap (slice_get marks) at ∙ on)
      ∙ ap (slice_get numbers) at ∙ number))
