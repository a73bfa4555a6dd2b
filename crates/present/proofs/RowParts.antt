-- Rows of numbers that take others, index by index.
use Rattle.std.proofs.Common.{◌≡◌, ◌⊎◌, ℕ, ◌+◌, ◌-◌, ◌<◌, ◌≤◌, Bool, true, false, List, length, get_or, max, min, Option, Some, None, refl, sym, ap, ◌∙◌, inl, inr, arith}
use Rattle.std.specs.Prelude.{slice_get, slice_range, nat_le, nat_lt, option_map, unwrap_or}
use Rattle.std.proofs.lemmas.Bool.{leb-true, le-leb, ltb-true, ltb-false, false_from_ne_true}
use Rattle.std.proofs.lemmas.Option.{slice_get-get_or, slice_get_past}
use Rattle.std.proofs.lemmas.List.Edits.{length-between}
use Rattle.base.specs.Arrays.{overwritten}
use Rattle.base.proofs.Places.{overwritten_before, overwritten_in, overwritten_after}
use Rattle.base.specs.Rows.{at_index}
use Rattle.present.specs.Rows.{Takes}
use Rattle.present.proofs.Copies.{part_at}

-- What stands at an index.

module _ {A : Type 0} (first : ℕ) (xs : List A) (i : ℕ) where
  abbrev by_test : Bool → Option A
  by_test t = elim t [ true ↦ slice_get xs (i - first) | false ↦ None ]

  pub at_index_from : first ≤ i → at_index first xs i ≡ slice_get xs (i - first)
  at_index_from h = ap by_test (le-leb first i h)

  pub at_index_before : i < first → at_index first xs i ≡ None
  at_index_before h = ap by_test (false_from_ne_true (nat_le first i) (λ t. (let l = leb-true first i t in omega arith)))

  pub at_index_past : first + length xs ≤ i → at_index first xs i ≡ None
  at_index_past h = at_index_from (omega arith) ∙ slice_get_past xs (i - first) (omega arith)

-- Nothing is taken where there is no number, or no place for it.
pub untaken : (v o : Option ℕ) → (v ≡ None) ⊎ (o ≡ None) → o ≡ option_map (λ n. unwrap_or v n) o
untaken v None h = refl
untaken v (Some n) (inl h) = ap (λ w. Some (unwrap_or w n)) (sym h)
untaken v (Some n) (inr h) = absurd (cc h)

-- A part of a list is written over the numbers that have the same indices.
module _ (values numbers : List ℕ) (start first begin end : ℕ) (l : start ≤ begin) (m : first ≤ begin)
    (u : end ≤ start + length values) (v : end ≤ first + length numbers) where
  pub taken_none : end ≤ begin → begin ≤ max start first → min (start + length values) (first + length numbers) ≤ end →
      Takes (at_index start values) first numbers numbers
  taken_none none low high k = untaken _ _ (go (nat_lt (first + k) start) refl (nat_lt (first + k) (start + length values)) refl)
    where
      go : (s : Bool) → nat_lt (first + k) start ≡ s → (t : Bool) → nat_lt (first + k) (start + length values) ≡ t →
          (at_index start values (first + k) ≡ None) ⊎ (slice_get numbers k ≡ None)
      go true e t f = inl (at_index_before start values (first + k) (ltb-true _ _ e))
      go false e false f = inl (at_index_past start values (first + k) (ltb-false (first + k) _ f))
      go false e true f =
          let from = ltb-false (first + k) start e in
          let below = ltb-true (first + k) (start + length values) f in
          inr (slice_get_past numbers k (omega arith))

  pub taken_part : begin < end → begin ≤ max start first → min (start + length values) (first + length numbers) ≤ end →
      Takes (at_index start values) first numbers
      (overwritten numbers (begin - first) (slice_range values (begin - start) (end - start)))
  taken_part some low high k = go (nat_lt (first + k) begin) refl (nat_lt (first + k) end) refl
    where
      long : length (slice_range values (begin - start) (end - start)) ≡ end - begin
      long = let e = length-between values (begin - start) (end - start) (omega arith) in omega arith

      fits : begin - first + length (slice_range values (begin - start) (end - start)) ≤ length numbers
      fits = let e = long in omega arith

      go : (s : Bool) → nat_lt (first + k) begin ≡ s → (t : Bool) → nat_lt (first + k) end ≡ t →
          slice_get (overwritten numbers (begin - first) (slice_range values (begin - start) (end - start))) k
          ≡ option_map (λ n. unwrap_or (at_index start values (first + k)) n) (slice_get numbers k)
      go true e t f =
          let below = ltb-true (first + k) begin e in
          overwritten_before numbers (slice_range values (begin - start) (end - start)) (begin - first) fits k (omega arith)
          ∙ untaken _ _ (inl (at_index_before start values (first + k) (omega arith)))
      go false e true f =
          let from = ltb-false (first + k) begin e in
          let below = ltb-true (first + k) end f in
          let is = long in
          let at : begin - start + (k - (begin - first)) ≡ first + k - start = omega arith in
          let there = slice_get-get_or values (first + k - start) 0 (omega arith) in
          let old = slice_get-get_or numbers k 0 (omega arith) in
          overwritten_in numbers (slice_range values (begin - start) (end - start)) (begin - first) fits k (omega arith) (omega arith)
          ∙ part_at values (begin - start) (end - start) (k - (begin - first)) (omega arith)
          ∙ ap (slice_get values) at ∙ there
          ∙ sym (ap (λ o. option_map (λ n. unwrap_or o n) (slice_get numbers k))
          (at_index_from start values (first + k) (omega arith) ∙ there)
          ∙ ap (λ o. option_map (λ n. unwrap_or (Some (get_or values (first + k - start) 0)) n) o) old)
      go false e false f =
          let from = ltb-false (first + k) begin e in
          let past = ltb-false (first + k) end f in
          let is = long in
          overwritten_after numbers (slice_range values (begin - start) (end - start)) (begin - first) fits k (omega arith)
          ∙ untaken _ _ (outside past (nat_lt (first + k) (start + length values)) refl)
        where
          outside : end ≤ first + k → (t : Bool) → nat_lt (first + k) (start + length values) ≡ t →
              (at_index start values (first + k) ≡ None) ⊎ (slice_get numbers k ≡ None)
          outside a false g = inl (at_index_past start values (first + k) (ltb-false (first + k) _ g))
          outside a true g =
              let b = ltb-true (first + k) (start + length values) g in
              inr (slice_get_past numbers k (omega arith))

-- Marked numbers are stored one after the other: those with an index below i so far.

abbrev pub below : ℕ → (ℕ → Option ℕ) → ℕ → Option ℕ
below i f x = elim (nat_lt x i) [ true ↦ f x | false ↦ None ]
