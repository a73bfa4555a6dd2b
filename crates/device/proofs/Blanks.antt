-- A frame without cells is for a frame that is filled, if it was for it before.
use Rattle.std.proofs.Common.{◌≡◌, ◌⊎◌, inl, inr, ◌∙◌, ◌<◌, ◌≤◌, ◌+◌, ℕ, zero, suc, List, [], ◌∷◌, ◌++◌, get_or, map, take, length, Option, Some, None, refl, sym, ap, ap₂, subst, arith, length-append}
use Rattle.std.specs.Prelude.{◌==◌, Bool, true, false, IfSome, option_map, slice_get}
use Rattle.std.specs.List.{slice_set}
use Rattle.std.proofs.lemmas.Bool.{eqb-true, eqb-false}
use Rattle.base.proofs.Places.{get_set_other, get_set_same}
use Rattle.std.proofs.lemmas.Option.{same_Some, slice_get-map, slice_get_within}
use Rattle.std.proofs.lemmas.List.{length-map, take_more}
use Rattle.base.specs.declared.item.ItemKind.{ItemKind}
use Rattle.base.specs.declared.item.ItemKind.TheVariants as kind
use Rattle.kernel.specs.declared.frames.Frame.{Frame}
use Rattle.kernel.specs.declared.frames.Row.{Row}
use Rattle.present.specs.declared.Table.{Table}
use Rattle.frames.proofs.RowViews.{past_end}
use Rattle.frames.specs.Rows.{FitIn}
use Rattle.device.specs.Blank.{AreBlankRows, HasRoomOf, HaveRoomOf, IsBlank, IsBlankOf, IsBlankRow}
use Rattle.device.specs.declared.frame.Unfilled.{Unfilled}
use Rattle.device.specs.Opening.{IsFilled}
use Rattle.device.specs.Standing.{frame_parts, row_parts}

-- rows with the room of others are for rows that fit in these
module _ (xs ys blank : List Row) (fits : FitIn xs ys) (h : HaveRoomOf xs blank) where
  found_at : (k : ℕ) (p : ℕ × List ℕ) (r : Row) (o o' : Option Row) → slice_get xs k ≡ o → slice_get ys k ≡ o' →
      slice_get (map row_parts ys) k ≡ Some p → slice_get blank k ≡ Some r → IsBlankRow p r
  found_at k p r o None e f at_p at_r =
      absurd (let bad : None ≡ Some p = sym (ap (option_map row_parts) f) ∙ sym (slice_get-map row_parts ys k) ∙ at_p in cc)
  found_at k p r None (Some y) e f at_p at_r =
      let l = past_end xs k e in
      let m = slice_get_within ys k y f in
      let n = fits.count in
      absurd (omega arith)
  found_at k p r (Some x) (Some y) e f at_p at_r =
      let is : row_parts y ≡ p =
      same_Some (row_parts y) p (sym (ap (option_map row_parts) f) ∙ sym (slice_get-map row_parts ys k) ∙ at_p) in
      let of = h.each k x r e at_r in
      let room = of.room in
      let fit = fits.fits k x y e f in
      subst (λ (q : ℕ × List ℕ). IsBlankRow q r) is
      (record { first = of.first ∙ sym (fits.first k x y e f); cells = of.cells; room = omega (arith, room, fit) })

  pub blank_rows : AreBlankRows (map row_parts ys) blank
  blank_rows = record {
    count = let c = h.count in
        let m = length-map ys row_parts in
        let n = fits.count in
        omega arith;
    each = λ k p r. found_at k p r (slice_get xs k) (slice_get ys k) refl refl;
  }

-- what filling leaves as it is
record Stays (u : Unfilled) (f : Frame) : Type 0 where
  item : f.item ≡ u.frame.item
  loops' : f.loops.now.values.items ≡ u.frame.loops.now.values.items
  scalars' : f.scalars ≡ u.frame.scalars
  input : f.input.now ≡ u.frame.input.now

same_stays : (u : Unfilled) (f : Frame) → f ≡ u.frame → Stays u f
same_stays u f e = record {
  item = ap (λ x. x.item) e;
  loops' = ap (λ x. x.loops.now.values.items) e;
  scalars' = ap (λ x. x.scalars) e;
  input = ap (λ x. x.input.now) e;
}

filled_stays : (k : ItemKind) (u : Unfilled) (table : Table) (f : Frame) → IsFilled k u table f → Stays u f
filled_stays kind.Target u table f h = record { item = h.item; loops' = h.loops; scalars' = h.scalars; input = h.input }
filled_stays kind.Host u table f h = same_stays u f h
filled_stays kind.Begin u table f h = same_stays u f h
filled_stays kind.End u table f h = same_stays u f h
filled_stays kind.Enter u table f h = same_stays u f h
filled_stays kind.Exit u table f h = same_stays u f h
filled_stays kind.Update u table f h = same_stays u f h
filled_stays kind.Wait u table f h = same_stays u f h

-- a frame without cells, with the room of the frame to be filled, is for the filled one
pub blank_for : (k : ItemKind) (u : Unfilled) (table : Table) (f : Frame) (o : Option Frame) → IsFilled k u table f →
    FitIn u.frame.rows.items f.rows.items → IfSome o (IsBlankOf u.frame) → IfSome o (IsBlank (frame_parts f))
blank_for k u table f None filled fits b = b
blank_for k u table f (Some blank) filled fits b =
    let stays = filled_stays k u table f filled in
    record {
      item = b.item ∙ sym stays.item;
      loops = b.loops ∙ sym stays.loops';
      scalars = b.scalars ∙ sym stays.scalars';
      rows = blank_rows u.frame.rows.items f.rows.items blank.rows.items fits b.rows;
      input = b.input ∙ sym stays.input;
    }

-- ---- a frame without cells takes those of the frame that it is for

-- the first n rows are filled, and the others are as they were
pub record FilledUpTo (n : ℕ) (rows old now : List Row) : Type 0 where
  pub done : (k : ℕ) (x y : Row) → k < n → slice_get rows k ≡ Some x → slice_get now k ≡ Some y → row_parts y ≡ row_parts x
  pub rest : (k : ℕ) → n ≤ k → slice_get now k ≡ slice_get old k

-- one more row of those that are asked for
pub room_more : (rows : List Row) (k : ℕ) (d : Row) (blank : List Row) (r : Row) → k < length rows →
    HaveRoomOf (take k rows) blank → HasRoomOf (get_or rows k d) r → HaveRoomOf (take (k + 1) rows) (blank ++ r ∷ [])
room_more rows k d blank r lt before one =
    subst (λ xs. HaveRoomOf xs (blank ++ r ∷ [])) (sym (take_more rows k d lt)) (more (take k rows) blank (get_or rows k d) r before one)
  where
    at_end : {A : Type 0} (xs : List A) (x y : A) (k : ℕ) → slice_get (xs ++ x ∷ []) k ≡ Some y →
        (slice_get xs k ≡ Some y) ⊎ ((k ≡ length xs) × (x ≡ y))
    at_end [] x y zero e = inr (refl, same_Some x y e)
    at_end [] x y (suc k) e = absurd (cc e)
    at_end (z ∷ xs) x y zero e = inl e
    at_end (z ∷ xs) x y (suc k) e = further (at_end xs x y k e)
      where
        further : (slice_get xs k ≡ Some y) ⊎ ((k ≡ length xs) × (x ≡ y)) →
            (slice_get xs k ≡ Some y) ⊎ ((suc k ≡ suc (length xs)) × (x ≡ y))
        further (inl h) = inl h
        further (inr h) = inr (ap suc h.0, h.1)

    more : (xs rs : List Row) (x r : Row) → HaveRoomOf xs rs → HasRoomOf x r → HaveRoomOf (xs ++ x ∷ []) (rs ++ r ∷ [])
    more xs rs x r h one = record {
      count = let c = h.count in
          let l = length-append rs (r ∷ []) in
          let m = length-append xs (x ∷ []) in
          omega (arith, c, l, m);
      each = λ k y s at_y at_s. go k y s (at_end xs x y k at_y) (at_end rs r s k at_s);
    }
      where
        go : (k : ℕ) (y s : Row) → (slice_get xs k ≡ Some y) ⊎ ((k ≡ length xs) × (x ≡ y)) →
            (slice_get rs k ≡ Some s) ⊎ ((k ≡ length rs) × (r ≡ s)) → HasRoomOf y s
        go k y s (inl a) (inl b) = h.each k y s a b
        go k y s (inr a) (inr b) = subst (λ u. HasRoomOf u s) a.1 (subst (HasRoomOf x) b.1 one)
        go k y s (inl a) (inr b) =
            let c = h.count in
            let l = slice_get_within xs k y a in
            let m = b.0 in
            absurd (omega arith)
        go k y s (inr a) (inl b) =
            let c = h.count in
            let l = slice_get_within rs k s b in
            let m = a.0 in
            absurd (omega arith)

-- one more row is filled
pub filled_more : (i : ℕ) (rows old now : List Row) (x r : Row) → i < length now → slice_get rows i ≡ Some x →
    row_parts r ≡ row_parts x → FilledUpTo i rows old now → FilledUpTo (i + 1) rows old (slice_set now i r)
filled_more i rows old now x r lt at same h = record {
  done = λ k y z l e f. go k y z l e f (k == i) refl;
  rest = λ k l. get_set_other now i r k (λ e. beyond i k l (sym e)) ∙ h.rest k (omega arith);
}
  where
    beyond : (i k : ℕ) → i + 1 ≤ k → k ≡ i → ⊥
    beyond i k l e = omega arith

    go : (k : ℕ) (y z : Row) → k < i + 1 → slice_get rows k ≡ Some y → slice_get (slice_set now i r) k ≡ Some z →
        (b : Bool) → (k == i) ≡ b → row_parts z ≡ row_parts y
    go k y z l e f true is =
        let k_is = eqb-true k i is in
        let z_is : r ≡ z =
        same_Some r z (sym (get_set_same now i r lt) ∙ ap (slice_get (slice_set now i r)) (sym k_is) ∙ f) in
        let y_is : x ≡ y = same_Some x y (sym at ∙ ap (slice_get rows) (sym k_is) ∙ e) in
        ap row_parts (sym z_is) ∙ same ∙ ap row_parts y_is
    go k y z l e f false is =
        let other = eqb-false k i is in
        h.done k y z (omega (arith, other)) e (sym (get_set_other now i r k (λ e. other (sym e))) ∙ f)

-- all of them are filled
pub all_filled : (n : ℕ) (rows old now : List Row) → length now ≡ length rows → length now ≤ n → FilledUpTo n rows old now →
    map row_parts now ≡ map row_parts rows
all_filled n rows old now size past h = same_rows now rows size (λ k x y at_x at_y.
    h.done k x y (let l = slice_get_within now k y at_y in omega arith) at_x at_y)
  where
    same_rows : (ys xs : List Row) → length ys ≡ length xs →
        ((k : ℕ) (x y : Row) → slice_get xs k ≡ Some x → slice_get ys k ≡ Some y → row_parts y ≡ row_parts x) →
        map row_parts ys ≡ map row_parts xs
    same_rows [] [] e f = refl
    same_rows [] (x ∷ xs) e f = absurd (omega (arith, e))
    same_rows (y ∷ ys) [] e f = absurd (omega (arith, e))
    same_rows (y ∷ ys) (x ∷ xs) e f =
        ap₂ ◌∷◌ (f zero x y refl refl) (same_rows ys xs (omega (arith, e)) (λ k. f (suc k)))
