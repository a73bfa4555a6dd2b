-- Items whose regions touch alike.
use Rattle.std.proofs.Common.{◌≡◌, ℕ, ◌+◌, ◌<◌, ◌==◌, Bool, true, false, List, [], ◌∷◌, ◌++◌, length, map, get_or, Option, Some, None, refl, sym, ap, ◌∙◌, subst, ⊎_elim, length-append, arith}
use Rattle.std.specs.Prelude.{not, slice_get}
use Rattle.std.specs.Option.{option_eq}
use Rattle.std.proofs.lemmas.Bool.{cases_eq, eqb-true}
use Rattle.std.proofs.lemmas.Option.{same_Some, slice_get_within}
use Rattle.base.specs.declared.item.Item.{Item}
use Rattle.base.specs.Items.{Plan, Work}
use Rattle.outline.specs.declared.RegionEntry.{RegionEntry}
use Rattle.outline.specs.Regions.{Entry, entry_of}
use Rattle.outline.specs.Shown.{all_shown, as_shown, shown, work_with}
use Rattle.regions.specs.Deciding.{AgreeWhereDeciding}
use Rattle.regions.proofs.Alike.{undeciding_loops_decide_nothing}
use Rattle.mapwalk.specs.Repeats.{AreFirstRepeats, IsRepeat, TouchAlike}
use Rattle.mapwalk.proofs.Prints.{get_before, get_last}
use Rattle.mapwalk.proofs.Touched.{same_work, shown_is}
use Rattle.mapwalk.proofs.Walking.{work_at}

-- a region's number that is tested
pub same_region : (o : Option ℕ) (k : ℕ) (differs : Bool) → differs ≡ not (option_eq (λ (a b : ℕ). a == b) o (Some k)) →
    differs ≡ false → o ≡ Some k
same_region None k differs e f = absurd cc
same_region (Some n) k differs e f = go (n == k) refl
  where
    go : (b : Bool) → (n == k) ≡ b → ◌≡◌ {A = Option ℕ} (Some n) (Some k)
    go true same = ap (λ (a : ℕ). Some a) (eqb-true n k same)
    go false other = absurd (let d : not (n == k) ≡ false = sym e ∙ f in cc)

-- two items of one region, around which the loops that decide have the same values
pub one_region : (lengths : List ℕ) (regions : List RegionEntry) (entries : List Entry) (earlier item : Item) (k : ℕ)
    (e : RegionEntry) (v w : Work) → map entry_of regions ≡ entries → earlier.region ≡ Some k → item.region ≡ Some k →
    slice_get regions k ≡ Some e → AgreeWhereDeciding e.region.now item.loops.values.items earlier.loops.values.items → shown entries earlier ≡ Some v →
    shown entries item ≡ Some w → TouchAlike lengths v w
one_region lengths regions entries earlier item k e v w are first second held agree is_v is_w =
    let r = e.region.now in
    let law = undeciding_loops_decide_nothing r item.loops.values.items earlier.loops.values.items agree in
    let one = same_work (work_with earlier (Some r)) v (shown entries earlier)
    (shown_is regions entries earlier k e are first held) is_v in
    let two = same_work (work_with item (Some r)) w (shown entries item)
    (shown_is regions entries item k e are second held) is_w in
    subst (λ (x : Work). TouchAlike lengths x w) one
    (subst (λ (y : Work). TouchAlike lengths (work_with earlier (Some r)) y) two
    (record { region = refl; touches = law.touches; turns = law.turns; faults = law.faults lengths }))

-- what an item of the code is shown as
pub shown_at : (entries : List Entry) (items : List Item) (works : List Work) (i : ℕ) (x : Item) (w : Work) →
    all_shown entries items ≡ as_shown works → i < length items → x ≡ get_or items i x → slice_get works i ≡ Some w →
    shown entries x ≡ Some w
shown_at entries items works i x w are inside is there =
    let at = work_at entries items works i x are inside is in
    at.is ∙ ap (λ (y : Work). Some y) (same_Some at.work w (sym at.there ∙ there))

-- one item more
pub one_repeat : (plan : Plan) (n : ℕ) (all : List (Option ℕ)) (o : Option ℕ) → AreFirstRepeats plan n all →
    ((k : ℕ) → o ≡ Some k → IsRepeat plan n k) → AreFirstRepeats plan (n + 1) (all ++ o ∷ [])
one_repeat plan n all o h is = record {
  count = let c = h.count in length-append all (o ∷ []) ∙ ap (λ k. k + 1) c;
  each = λ i k e. ⊎_elim (λ (same : i ≡ n). last i k e same)
      (λ (other : i ≡ n → ⊥). h.each i k (get_before all o (Some k) i (below i k e other) e)) (cases_eq i n);
}
  where
    last : (i k : ℕ) → slice_get (all ++ o ∷ []) i ≡ Some (Some k) → i ≡ n → IsRepeat plan i k
    last i k e same =
        subst (λ (m : ℕ). IsRepeat plan m k) (sym same) (is k (get_last all o (Some k) i (same ∙ sym h.count) e))

    below : (i k : ℕ) → slice_get (all ++ o ∷ []) i ≡ Some (Some k) → (i ≡ n → ⊥) → i < length all
    below i k e other =
        let lt : i < length (all ++ o ∷ []) = slice_get_within (all ++ o ∷ []) i (Some k) e in
        let long = length-append all (o ∷ []) in
        let c = h.count in omega (arith, lt, long, c, other)
