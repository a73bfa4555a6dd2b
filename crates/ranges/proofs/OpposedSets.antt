-- The sets of cells that turns have touched, one for each way.
use Rattle.std.proofs.Common.{◌≡◌, ℕ, zero, suc, ◌+◌, ◌<◌, Bool, true, false, List, [], ◌∷◌, ◌++◌, Option, Some, None, length, get_or, refl, sym, ap, ◌∙◌, add-one, eqb-true}
use Rattle.std.specs.Prelude.{◌&&◌, ◌||◌, ◌==◌, slice_get, slice_set}
use Rattle.std.proofs.lemmas.Bool.{eqb-false}
use Rattle.std.proofs.lemmas.Option.{slice_get-get_or}
use Rattle.std.proofs.Math.Bool.{or-false}
use Rattle.bits.specs.Sets.{IsFirstAt}
use Rattle.base.specs.declared.tree.ArrayId.{ArrayId}
use Rattle.base.specs.declared.item.Cell.{Cell}
use Rattle.base.specs.declared.fault.Interval.{Interval}
use Rattle.base.proofs.Places.{get_set_other, get_set_same}
use Rattle.ranges.specs.declared.cells.CellSet.{CellSet}
use Rattle.ranges.specs.Cells.{has}
use Rattle.ranges.specs.Rows.{is_within}
use Rattle.ranges.specs.Ways.{cell_in, lesser_number, opposed, opposes, touched_in}
use Rattle.ranges.proofs.FirstOpposed.{first_same, lesser_first}

-- one more set, that has no cell
pub none_more : (sets : List CellSet) (set : CellSet) → ((k : ℕ) (c : Cell) → touched_in sets k c ≡ false) →
    ((c : Cell) → has set c ≡ false) → (k : ℕ) (c : Cell) → touched_in (sets ++ set ∷ []) k c ≡ false
none_more [] set h e zero c = e c
none_more [] set h e (suc k) c = refl
none_more (x ∷ sets) set h e zero c = h 0 c
none_more (x ∷ sets) set h e (suc k) c = none_more sets set (λ j d. h (suc j) d) e k c

set_of : Cell → Option CellSet → Bool
set_of c o = elim o [
  | None ↦ false
  | Some set ↦ has set c
]

pub touched_at : (sets : List CellSet) (k : ℕ) (set : CellSet) → k < length sets → set ≡ get_or sets k set → (c : Cell) →
    touched_in sets k c ≡ has set c
unfolding set_of
touched_at sets k set h e c = ap (set_of c) (slice_get-get_or sets k set h ∙ ap Some (sym e))

-- cells are added to one of the sets
pub touched_more : (sets : List CellSet) (way : ℕ) (old new : CellSet) (more : Cell → Bool) → way < length sets →
    old ≡ get_or sets way old → has new ≡ (λ c. has old c || more c) → (k : ℕ) (c : Cell) →
    touched_in (slice_set sets way new) k c ≡ (touched_in sets k c || ((way == k) && more c))
unfolding set_of
touched_more sets way old new more h e is k c = go (way == k) refl
  where
    go : (b : Bool) → (way == k) ≡ b → touched_in (slice_set sets way new) k c ≡ (touched_in sets k c || (b && more c))
    go true same =
        let at : way ≡ k = eqb-true way k same in
        ap (λ n. set_of c (slice_get (slice_set sets way new) n)) (sym at)
        ∙ ap (set_of c) (get_set_same sets way new h)
        ∙ ap (λ f. f c) is
        ∙ ap (λ (b : Bool). b || more c) (sym (touched_at sets way old h e c))
        ∙ ap (λ n. set_of c (slice_get sets n) || more c) at
    go false other =
        ap (set_of c) (get_set_other sets way new k (eqb-false way k other)) ∙ sym (or-false (touched_in sets k c))

and_either : (w a b : Bool) → ((w && a) || (w && b)) ≡ (w && (a || b))
and_either true a b = refl
and_either false a b = refl

module _ (way : ℕ) (a : ArrayId) (cells : Interval) (touched : ℕ → Cell → Bool) where
  -- cells of the interval that were touched in one of the first ways which oppose this one
  abbrev pub IsFirstOpposed : ℕ → Option ℕ → Type 0
  IsFirstOpposed n first = IsFirstAt (λ i. is_within cells i && opposed n way touched (cell_in a i)) first

  pub none_opposed : IsFirstOpposed 0 None
  unfolding opposed
  none_opposed i = none (is_within cells i)
    where
      none : (w : Bool) → (w && false) ≡ false
      none true = refl
      none false = refl

  pub opposed_more : (k : ℕ) (row : ℕ → Bool) (first found : Option ℕ) → ((i : ℕ) → row i ≡ touched k (cell_in a i)) →
      opposes k way ≡ true → IsFirstOpposed k first → IsFirstAt (λ i. is_within cells i && row i) found →
      IsFirstOpposed (k + 1) (lesser_number first found)
  unfolding opposed
  opposed_more k row first found is o h g =
      first_same (λ i. (is_within cells i && opposed k way touched (cell_in a i)) || (is_within cells i && row i))
      (λ i. is_within cells i && opposed (k + 1) way touched (cell_in a i)) (lesser_number first found)
      (λ i. ap (λ (b : Bool). (is_within cells i && opposed k way touched (cell_in a i)) || (is_within cells i && b)) (is i)
      ∙ and_either (is_within cells i) (opposed k way touched (cell_in a i)) (touched k (cell_in a i))
      ∙ ap (λ (b : Bool). is_within cells i && (opposed k way touched (cell_in a i) || (b && touched k (cell_in a i)))) (sym o)
      ∙ ap (λ n. is_within cells i && opposed n way touched (cell_in a i)) (sym (add-one k)))
      (lesser_first (λ i. is_within cells i && opposed k way touched (cell_in a i)) (λ i. is_within cells i && row i)
      first found h g)

  pub opposed_same : (k : ℕ) (first : Option ℕ) → opposes k way ≡ false → IsFirstOpposed k first →
      IsFirstOpposed (k + 1) first
  unfolding opposed
  opposed_same k first o h =
      first_same (λ i. is_within cells i && opposed k way touched (cell_in a i))
      (λ i. is_within cells i && opposed (k + 1) way touched (cell_in a i)) first
      (λ i. ap (λ (b : Bool). is_within cells i && b) (sym (or-false (opposed k way touched (cell_in a i))))
      ∙ ap (λ (b : Bool). is_within cells i && (opposed k way touched (cell_in a i) || (b && touched k (cell_in a i)))) (sym o)
      ∙ ap (λ n. is_within cells i && opposed n way touched (cell_in a i)) (sym (add-one k)))
      h
