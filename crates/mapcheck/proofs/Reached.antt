-- The reaches of the first items of a plan.
use Rattle.base.specs.Actions.{touches_in}
use Rattle.std.proofs.Common.{◌≡◌, ℕ, ◌+◌, ◌<◌, Bool, false, List, [], ◌∷◌, ◌++◌, length, get_or, Option, Some, None, Result, Ok, Err, Vec, Global, sym, ap, ◌∙◌, subst, arith, ⊎_elim, length-append}
use Rattle.std.specs.Prelude.{◌||◌, slice_get, IfOk}
use Rattle.std.specs.declared.alloc.AllocError.{AllocError}
use mathlib.Core.Path.{fun_ext}
use Rattle.std.proofs.lemmas.Bool.{cases_eq}
use Rattle.std.proofs.lemmas.Option.{same_Some, slice_get-get_or, slice_get_within}
use Rattle.base.specs.declared.item.Cell.{Cell}
use Rattle.base.specs.declared.item.Section.{Section}
use Rattle.base.specs.declared.tree.Region.{Region}
use Rattle.base.specs.Items.{Plan, Work}
use Rattle.base.specs.Footprint.{Touch}
use Rattle.ranges.specs.declared.cells.Footprint.{Footprint}
use Rattle.ranges.specs.Reach.{AreLeastRuns, is_touched, touched_by}
use Rattle.mapwalk.specs.Regions.{AreTouches}
use Rattle.mapwalk.specs.Repeats.{AreRepeats}
use Rattle.mapwalk.proofs.Copies.{item_at, repeat_at}
use Rattle.mapwalk.proofs.Prints.{get_before, get_last}
use Rattle.mapcheck.specs.Reaches.{AreFirstReaches, IsReach}

-- no run is the reach of an item without a region
pub none_reached : (lengths : List ℕ) (w : Work) (runs : List Section) → w.region ≡ None →
    AreLeastRuns (λ c. false) (length lengths) runs → IsReach lengths w runs
none_reached lengths w runs e h =
    let none : [] ≡ touches_in w = sym (ap (λ (o : Option Region). touches_in (record w { region = o })) e) in
    subst (λ (ts : List Touch). AreLeastRuns (is_touched ts) (length lengths) runs) none h

-- the runs of what a footprint touches
pub print_reached : (lengths : List ℕ) (w : Work) (f : Footprint) (runs : List Section) → AreTouches w f →
    AreLeastRuns (touched_by f) (length lengths) runs → IsReach lengths w runs
print_reached lengths w f runs is h =
    let same : touched_by f ≡ is_touched (touches_in w) = fun_ext (λ (c : Cell). (λ i. is.read c i || is.write c i)) in
    subst (λ (p : Cell → Bool). AreLeastRuns p (length lengths) runs) same h

-- the runs of the item that is repeated, copied
pub copied_reach : (plan : Plan) (repeats : List (Option ℕ)) (n k : ℕ) (w : Work) (before : List (Vec Section Global))
    (v : Vec Section Global) (runs : List Section) (r : Result (Vec Section Global) AllocError) →
    AreRepeats plan repeats → AreFirstReaches plan n before → n < length plan.items →
    slice_get plan.items n ≡ Some w → get_or repeats n None ≡ Some k → v ≡ get_or before k v → runs ≡ v.items →
    IfOk r (λ y. y.items ≡ runs) → IfOk r (λ y. IsReach plan.lengths w y.items)
copied_reach plan repeats n k w before v runs (Err e) are h inside there is at same copied = tt
copied_reach plan repeats n k w before v runs (Ok y) are h inside there is at same copied =
    let r = repeat_at plan repeats n k are inside is in
    let lower = r.before in
    let many = h.count in
    let x = item_at plan k (omega arith) in
    let held : slice_get before k ≡ Some v = slice_get-get_or before k v (omega arith)
    ∙ ap (λ (z : Vec Section Global). Some z) (sym at) in
    subst (λ (ss : List Section). IsReach plan.lengths w ss) (sym (copied ∙ same))
    (subst (λ (ts : List Touch). AreLeastRuns (is_touched ts) (length plan.lengths) v.items)
    (sym (r.alike x.work w x.there there).touches) (h.each k x.work v x.there held))

-- one item more
pub one_reach : (plan : Plan) (n : ℕ) (all : List (Vec Section Global)) (w : Work) (v : Vec Section Global) →
    AreFirstReaches plan n all → slice_get plan.items n ≡ Some w → IsReach plan.lengths w v.items →
    AreFirstReaches plan (n + 1) (all ++ v ∷ [])
one_reach plan n all w v h there is = record {
  count = let c = h.count in length-append all (v ∷ []) ∙ ap (λ k. k + 1) c;
  each = λ i u x e f. ⊎_elim (λ (same : i ≡ n). last i u x e f same)
      (λ (other : i ≡ n → ⊥). h.each i u x e (get_before all v x i (below i x f other) f)) (cases_eq i n);
}
  where
    last : (i : ℕ) (u : Work) (x : Vec Section Global) → slice_get plan.items i ≡ Some u →
        slice_get (all ++ v ∷ []) i ≡ Some x → i ≡ n → IsReach plan.lengths u x.items
    last i u x e f same =
        let one : w ≡ u = same_Some w u (sym there ∙ ap (slice_get plan.items) (sym same) ∙ e) in
        let two : v ≡ x = get_last all v x i (same ∙ sym h.count) f in
        subst (λ (y : Work). IsReach plan.lengths y x.items) one
        (subst (λ (y : Vec Section Global). IsReach plan.lengths w y.items) two is)

    below : (i : ℕ) (x : Vec Section Global) → slice_get (all ++ v ∷ []) i ≡ Some x → (i ≡ n → ⊥) → i < length all
    below i x f other =
        let lt : i < length (all ++ v ∷ []) = slice_get_within (all ++ v ∷ []) i x f in
        let long = length-append all (v ∷ []) in
        let c = h.count in omega (arith, lt, long, c, other)
