-- The arrays of a program with boxed scalars: theirs stand behind the others, and have one cell each.
use Rattle.std.proofs.Common.{◌≡◌, ℕ, zero, suc, ◌+◌, ◌<◌, Bool, true, false, cond, nat_lt, List, [], ◌∷◌, ◌++◌, map, length, slice_index, Some, refl, sym, ap, ◌∙◌, arith}
use Rattle.std.specs.Str.{bytes_eq}
use Rattle.std.proofs.Math.ListN.{get_or-append}
use Rattle.std.proofs.lemmas.List.{get_or-append-add}
use Rattle.std.proofs.lemmas.Slice.Eq.{bytes_eq-Decides}
use Rattle.base.specs.declared.item.Cell.{Cell}
use Rattle.base.specs.declared.tree.ArrayId.{ArrayId}
use Rattle.base.specs.Memory.{is_cell}
use Rattle.c_expressions.specs.Scopes.{box_of}
use Rattle.c_read.specs.Globals.{boxes_from}
use Rattle.erased_meaning.proofs.Boxes.{Layout, box_cell}

-- an array is one of these boxes
abbrev pub IsBox : ℕ → List (List ℕ) → ArrayId → Type 0
IsBox k xs a = (i : ℕ) × (i < length xs) × (a.0 ≡ k + i)

pub box_place : (xs : List (List ℕ)) (k : ℕ) (x : List ℕ) (a : ArrayId) → box_of (boxes_from k xs) x ≡ Some a →
    IsBox k xs a
box_place [] k x a e = absurd cc
box_place (y ∷ xs) k x a e = step (bytes_eq y x) e (box_place xs (k + 1) x a)
  where
    here : ArrayId
    here = record { 0 = k }

    step : (t : Bool) → cond t (Some here) (box_of (boxes_from (k + 1) xs) x) ≡ Some a →
        (box_of (boxes_from (k + 1) xs) x ≡ Some a → IsBox (k + 1) xs a) → IsBox k (y ∷ xs) a
    step true e rest =
        let same : k ≡ a.0 = (let whole : here ≡ a = cc in ap (λ (b : ArrayId). b.0) whole) in
        (0, omega arith, omega (arith, same))
    step false e rest =
        let next = rest e in
        let small : next.0 < length xs = next.1 in
        let place : a.0 ≡ k + 1 + next.0 = next.2 in (next.0 + 1, omega (arith, small), omega (arith, place))

pub box_name : (xs : List (List ℕ)) (k : ℕ) (x y : List ℕ) (a : ArrayId) → box_of (boxes_from k xs) x ≡ Some a →
    box_of (boxes_from k xs) y ≡ Some a → x ≡ y
box_name [] k x y a e f = absurd cc
box_name (z ∷ xs) k x y a e f =
    step (bytes_eq z x) (bytes_eq z y) (bytes_eq-Decides z x).0 (bytes_eq-Decides z y).0 e f (box_name xs (k + 1) x y a)
  where
    here : ArrayId
    here = record { 0 = k }

    apart : {A : Type 0} → (u : List ℕ) → Some here ≡ Some a → box_of (boxes_from (k + 1) xs) u ≡ Some a → A
    apart u e f =
        let same : k ≡ a.0 = (let whole : here ≡ a = cc in ap (λ (b : ArrayId). b.0) whole) in
        let place = (box_place xs (k + 1) u a f).2 in absurd (omega (arith, same, place))

    step : (s t : Bool) → (s ≡ true → z ≡ x) → (t ≡ true → z ≡ y) →
        cond s (Some here) (box_of (boxes_from (k + 1) xs) x) ≡ Some a →
        cond t (Some here) (box_of (boxes_from (k + 1) xs) y) ≡ Some a →
        (box_of (boxes_from (k + 1) xs) x ≡ Some a → box_of (boxes_from (k + 1) xs) y ≡ Some a → x ≡ y) → x ≡ y
    step true true p q e f rest = sym (p refl) ∙ q refl
    step true false p q e f rest = apart y e f
    step false true p q e f rest = apart x f e
    step false false p q e f rest = rest e f

-- ---- the lengths

abbrev pub ones : List (List ℕ) → List ℕ
ones xs = map (λ x. 1) xs

one_at : (xs : List (List ℕ)) (i : ℕ) → i < length xs → slice_index (ones xs) i ≡ 1
one_at [] i h = absurd (omega (arith, h))
one_at (x ∷ xs) zero h = refl
one_at (x ∷ xs) (suc i) h = one_at xs i (omega (arith, h))

module _ (lengths : List ℕ) (xs : List (List ℕ)) where
  pub in_front : (c : Cell) → c.array.0 < length lengths → is_cell (lengths ++ ones xs) c ≡ is_cell lengths c
  in_front c h = ap (λ (n : ℕ). nat_lt c.index n) (get_or-append lengths (ones xs) 0 c.array.0 h)

  pub a_box : (a : ArrayId) → IsBox (length lengths) xs a → is_cell (lengths ++ ones xs) (box_cell a) ≡ true
  a_box a b =
      let size : slice_index (lengths ++ ones xs) a.0 ≡ 1 =
      ap (slice_index (lengths ++ ones xs)) b.2 ∙ get_or-append-add lengths (ones xs) b.0 0 ∙ one_at xs b.0 b.1 in
      ap (λ (n : ℕ). nat_lt 0 n) size

  abbrev pub layout_of : Layout
  layout_of = record {
    arrays = length lengths;
    boxes = boxes_from (length lengths) xs;
    first = lengths ++ ones xs;
    second = lengths;
    same = in_front;
    behind = λ x a e. let place = (box_place xs (length lengths) x a e).2 in omega (arith, place);
    there = λ x a e. a_box a (box_place xs (length lengths) x a e);
    apart = λ x y a e f. box_name xs (length lengths) x y a e f;
  }
