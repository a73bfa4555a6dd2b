-- The footprints of the first items of a plan.
use Rattle.std.proofs.Common.{◌≡◌, ℕ, zero, suc, ◌+◌, ◌<◌, List, [], ◌∷◌, ◌++◌, length, get_or, Option, Some, refl, sym, ap, ◌∙◌, subst, arith, ⊎_elim, length-append}
use Rattle.std.specs.Prelude.{slice_get}
use Rattle.std.proofs.lemmas.Bool.{cases_eq}
use Rattle.std.proofs.lemmas.Option.{same_Some, slice_get-get_or, slice_get_within}
use Rattle.base.specs.Items.{Plan, Work}
use Rattle.base.specs.Accepted.{region_faults}
use Rattle.ranges.specs.declared.cells.Footprint.{Footprint}
use Rattle.mapwalk.specs.Footprints.{AreFirstFootprints, AreFootprints}
use Rattle.mapwalk.specs.Regions.{IsFoundFor}

pub get_last : {A : Type 0} (found : List A) (o p : A) (i : ℕ) → i ≡ length found →
    slice_get (found ++ o ∷ []) i ≡ Some p → o ≡ p
get_last [] o p i e h = same_Some o p (subst (λ k. slice_get (o ∷ []) k ≡ Some p) e h)
get_last (x ∷ found) o p i e h = get_last found o p (length found) refl
    (subst (λ k. slice_get ((x ∷ found) ++ o ∷ []) k ≡ Some p) e h)

pub get_before : {A : Type 0} (found : List A) (o p : A) (i : ℕ) → i < length found →
    slice_get (found ++ o ∷ []) i ≡ Some p → slice_get found i ≡ Some p
get_before [] o p i lt h = absurd (omega arith)
get_before (x ∷ found) o p zero lt h = h
get_before (x ∷ found) o p (suc i) lt h = get_before found o p i (omega arith) h

pub one_print : (plan : Plan) (n : ℕ) (found : List (Option Footprint)) (w : Work) (o : Option Footprint) →
    AreFirstFootprints plan n found → slice_get plan.items n ≡ Some w → IsFoundFor plan.lengths w o →
    region_faults plan.lengths w.loops w.region ≡ [] → AreFirstFootprints plan (n + 1) (found ++ o ∷ [])
one_print plan n found w o h there is none = record {
  count = let c = h.count in length-append found (o ∷ []) ∙ ap (λ k. k + 1) c;
  each = λ i v p e f. ⊎_elim (λ (same : i ≡ n). last i v p e f same)
      (λ (other : i ≡ n → ⊥). h.each i v p e (get_before found o p i (below i p f other) f)) (cases_eq i n);
  fine = λ i v lt e. ⊎_elim (λ (same : i ≡ n). fine_here i v e same)
      (λ (other : i ≡ n → ⊥). h.fine i v (omega (arith, lt, other)) e) (cases_eq i n);
}
  where
    fine_here : (i : ℕ) (v : Work) → slice_get plan.items i ≡ Some v → i ≡ n →
        region_faults plan.lengths v.loops v.region ≡ []
    fine_here i v e same =
        subst (λ (x : Work). region_faults plan.lengths x.loops x.region ≡ [])
        (same_Some w v (sym there ∙ ap (slice_get plan.items) (sym same) ∙ e)) none

    last : (i : ℕ) (v : Work) (p : Option Footprint) → slice_get plan.items i ≡ Some v →
        slice_get (found ++ o ∷ []) i ≡ Some p → i ≡ n → IsFoundFor plan.lengths v p
    last i v p e f same =
        let one : w ≡ v = same_Some w v (sym there ∙ ap (slice_get plan.items) (sym same) ∙ e) in
        let two : o ≡ p = get_last found o p i (same ∙ sym h.count) f in
        subst (λ (x : Work). IsFoundFor plan.lengths x p) one (subst (λ (x : Option Footprint). IsFoundFor plan.lengths w x) two is)

    below : (i : ℕ) (p : Option Footprint) → slice_get (found ++ o ∷ []) i ≡ Some p → (i ≡ n → ⊥) → i < length found
    below i p f other =
        let lt : i < length (found ++ o ∷ []) = slice_get_within (found ++ o ∷ []) i p f in
        let long = length-append found (o ∷ []) in
        let c = h.count in omega (arith, lt, long, c, other)

-- the footprint of an item that is read
pub found_at : (plan : Plan) (found : List (Option Footprint)) (i n : ℕ) (w : Work) (o : Option Footprint) →
    AreFootprints plan found → slice_get plan.items i ≡ Some w → n ≡ i → n < length found → o ≡ get_or found n o →
    IsFoundFor plan.lengths w o
found_at plan found i n w o h there same lt is =
    h.each i w o there (ap (slice_get found) (sym same) ∙ slice_get-get_or found n o lt ∙ ap (λ (x : Option Footprint). Some x) (sym is))

pub at_inside : (plan : Plan) (i : ℕ) (w : Work) (found : List (Option Footprint)) (n : ℕ) → AreFootprints plan found →
    slice_get plan.items i ≡ Some w → n ≡ i → n < length found
at_inside plan i w found n h there same =
    let lt : i < length plan.items = slice_get_within plan.items i w there in
    let count = h.count in omega (arith, lt, count, same)
