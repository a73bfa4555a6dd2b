-- Rows that got the numbers of a view.
use Rattle.std.proofs.Common.{◌≡◌, ℕ, ◌+◌, ◌-◌, ◌<◌, ◌≤◌, Bool, true, false, List, length, Option, Some, None, refl, sym, ap, ◌∙◌, subst, arith}
use Rattle.std.specs.Prelude.{◌==◌, option_map, slice_get, slice_set, unwrap_or}
use Rattle.std.proofs.lemmas.Bool.{eqb-true, eqb-false}
use Rattle.std.proofs.lemmas.Option.{same_Some, slice_get_within}
use Rattle.base.specs.declared.item.Section.{Section}
use Rattle.base.specs.Memory.{View, is_in}
use Rattle.base.specs.Rows.{at_index}
use Rattle.base.proofs.Places.{get_set_other, get_set_same}
use Rattle.base.proofs.Sections.{in_parts}
use Rattle.kernel.specs.declared.frames.Row.{Row}
use Rattle.present.specs.Rows.{AreRead, cell_at, over}
use Rattle.present.proofs.Entries.{get_replicate}
use Rattle.ranges.specs.Reach.{cell_of}
use Rattle.shared_row.specs.Rows.{numbers_in, room_in}
use Rattle.frames.specs.Rows.{AreRows, FitIn, HasRoom, IsLoaded, IsRow, in_run}
use Rattle.frames.specs.Views.{every}
use Rattle.frames.proofs.RowViews.{past_end, row_from}

-- the numbers that were read of a run are its cells
read_run : (view : View) (s : Section) (xs : List ℕ) → length xs ≡ s.length → AreRead view s xs → (i : ℕ) →
    at_index s.first xs i ≡ in_run (over view (every 0)) s i
read_run view s xs long h = row_from (over view (every 0)) s xs long here
  where
    here : (i : ℕ) → is_in (cell_of s.array.0 i) s ≡ true →
        slice_get xs (i - s.first) ≡ over view (every 0) (cell_of s.array.0 i)
    here i e =
        let p = in_parts (cell_of s.array.0 i) s e in
        let above = p.above in
        let below = p.below in
        let at : s.first + (i - s.first) ≡ i = omega arith in
        h (i - s.first)
        ∙ ap (option_map (λ n. unwrap_or (view (cell_at s.array (s.first + (i - s.first)))) n))
        (get_replicate s.length (i - s.first) 0 (omega arith))
        ∙ ap (λ j. over view (every 0) (cell_at s.array j)) at

loaded_row : (view : View) (s : Section) (old new : Row) → IsLoaded view s old new → IsRow (over view (every 0)) s new
loaded_row view s old new h = record {
  cells = λ i. ap (λ n. at_index n (numbers_in new.cells) i) h.begins ∙ read_run view s (numbers_in new.cells) h.count h.numbers i;
  bounded = h.bounded;
}

module _ (view : View) (reach : List Section) where
  -- those before place n got the numbers, and the others are as they were
  pub record LoadedUpTo (n : ℕ) (old now : List Row) : Type 0 where
    pub done : (k : ℕ) (s : Section) (x y : Row) → k < n → slice_get reach k ≡ Some s → slice_get old k ≡ Some x →
        slice_get now k ≡ Some y → IsLoaded view s x y
    pub rest : (k : ℕ) → n ≤ k → slice_get now k ≡ slice_get old k

  module _ (n : ℕ) (old now : List Row) (room : AreRows HasRoom reach old) (long : length now ≡ length old)
      (past : length old ≤ n) (h : LoadedUpTo n old now) where
    loaded_at : (a : ℕ) (s : Section) (y : Row) → slice_get reach a ≡ Some s → slice_get now a ≡ Some y →
        (o : Option Row) → slice_get old a ≡ o → IsRow (over view (every 0)) s y
    loaded_at a s y e g None f =
        let l = past_end old a f in
        let m = slice_get_within now a y g in
        absurd (omega arith)
    loaded_at a s y e g (Some x) f =
        let m = slice_get_within old a x f in
        loaded_row view s x y (h.done a s x y (omega arith) e f g)

    pub loaded_rows : AreRows (IsRow (over view (every 0))) reach now
    loaded_rows = record {
      count = long ∙ room.count;
      each = λ a s y e g. loaded_at a s y e g (slice_get old a) refl;
    }

    loaded_in : (a : ℕ) (x y : Row) → slice_get old a ≡ Some x → slice_get now a ≡ Some y →
        (o : Option Section) → slice_get reach a ≡ o → (y.first ≡ x.first) × (length (numbers_in y.cells) ≤ room_in x.cells)
    loaded_in a x y f g None e =
        let l = past_end reach a e in
        let m = slice_get_within old a x f in
        let count = room.count in
        absurd (omega arith)
    loaded_in a x y f g (Some s) e =
        let m = slice_get_within old a x f in
        let is = h.done a s x y (omega arith) e f g in
        (is.first, is.fits)

    pub loaded_fit : FitIn old now
    loaded_fit = record {
      count = long;
      first = λ a x y f g. (loaded_in a x y f g (slice_get reach a) refl).0;
      fits = λ a x y f g. (loaded_in a x y f g (slice_get reach a) refl).1;
    }

  -- one row more got its numbers
  pub loaded_more : (n : ℕ) (old now : List Row) (s : Section) (r x : Row) → n < length now → slice_get reach n ≡ Some s →
      slice_get now n ≡ Some r → IsLoaded view s r x → LoadedUpTo n old now → LoadedUpTo (n + 1) old (slice_set now n x)
  loaded_more n old now s r x lt at is one h = record {
    done = λ k t y z l e f g. go k t y z l e f g (k == n) refl;
    rest = λ k l. get_set_other now n x k (λ e. beyond k l e) ∙ h.rest k (omega arith);
  }
    where
      beyond : (k : ℕ) → n + 1 ≤ k → n ≡ k → ⊥
      beyond k l e = omega arith

      go : (k : ℕ) (t : Section) (y z : Row) → k < n + 1 → slice_get reach k ≡ Some t → slice_get old k ≡ Some y →
          slice_get (slice_set now n x) k ≡ Some z → (b : Bool) → (k == n) ≡ b → IsLoaded view t y z
      go k t y z l e f g true k_is =
          let same : k ≡ n = eqb-true k n k_is in
          let section : s ≡ t = same_Some s t (sym at ∙ ap (slice_get reach) (sym same) ∙ e) in
          let before : r ≡ y = same_Some r y (sym is ∙ h.rest n (omega arith) ∙ ap (slice_get old) (sym same) ∙ f) in
          let after : x ≡ z = same_Some x z (sym (get_set_same now n x lt) ∙ ap (slice_get (slice_set now n x)) (sym same) ∙ g) in
          subst (λ u. IsLoaded view u y z) section (subst (λ u. IsLoaded view s u z) before (subst (IsLoaded view s r) after one))
      go k t y z l e f g false is_not =
          let other = eqb-false k n is_not in
          h.done k t y z (omega (arith, other)) e f (sym (get_set_other now n x k (λ e. other (sym e))) ∙ g)
