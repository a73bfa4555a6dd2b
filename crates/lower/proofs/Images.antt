-- The items of an outline, with their regions.
use Rattle.std.proofs.Common.{◌≡◌, ℕ, zero, suc, ◌<◌, List, [], ◌∷◌, length, map, Option, Some, None, refl, sym, ap, ◌∙◌, subst, arith}
use Rattle.std.specs.Prelude.{option_map, slice_get}
use Rattle.std.proofs.lemmas.List.{length-map}
use Rattle.std.proofs.lemmas.Option.{slice_get-map, slice_get_within}
use Rattle.base.specs.declared.item.Item.{Item}
use Rattle.base.specs.declared.tree.Region.{Region}
use Rattle.base.specs.Items.{Work}
use Rattle.outline.specs.Regions.{Entry}
use Rattle.outline.specs.Shown.{all_shown, as_shown, shown, work_with}
use Rattle.frames.proofs.RowViews.{past_end}
use Rattle.lower.specs.Image.{IsRegionOf, region_of}

-- an item and its work
pub work_at : (es : List Entry) (items : List Item) (works : List Work) → all_shown es items ≡ as_shown works →
    (i : ℕ) (item : Item) (w : Work) → slice_get items i ≡ Some item → slice_get works i ≡ Some w →
    shown es item ≡ Some w
work_at es [] works e i item w f g = absurd (cc f)
work_at es (x ∷ items) [] e i item w f g = absurd (cc g)
work_at es (x ∷ items) (y ∷ works) e zero item w f g =
    let a : x ≡ item = cc f in
    let b : y ≡ w = cc g in
    let c : shown es x ≡ Some y = cc e in
    ap (shown es) (sym a) ∙ c ∙ ap Some b
work_at es (x ∷ items) (y ∷ works) e (suc i) item w f g =
    let rest : all_shown es items ≡ as_shown works = cc e in work_at es items works rest i item w f g

abbrev by_region : List Entry → Item → Option ℕ → Option Work
by_region es i o = elim o [
  | None ↦ Some (work_with i None)
  | Some k ↦ option_map (λ e. work_with i (Some e.region)) (slice_get es k)
]

pub shown_none : (es : List Entry) (i : Item) (w : Work) → i.region ≡ None → shown es i ≡ Some w →
    work_with i None ≡ w
shown_none es i w e h =
    let f : ◌≡◌ {A = Option Work} (Some (work_with i None)) (Some w) = sym (ap (by_region es i) e) ∙ h in cc f

pub shown_some : (es : List Entry) (i : Item) (w : Work) (k : ℕ) (x : Entry) → i.region ≡ Some k →
    slice_get es k ≡ Some x → shown es i ≡ Some w → work_with i (Some x.region) ≡ w
shown_some es i w k x e g h =
    let f : ◌≡◌ {A = Option Work} (Some (work_with i (Some x.region))) (Some w) =
    sym (ap (by_region es i) e ∙ ap (option_map (λ (y : Entry). work_with i (Some y.region))) g) ∙ h in cc f

-- an item's region is one of the entries
pub shown_there : (es : List Entry) (i : Item) (w : Work) (k : ℕ) → i.region ≡ Some k → shown es i ≡ Some w →
    k < length es
shown_there es i w k e h = go (slice_get es k) refl
  where
    go : (o : Option Entry) → slice_get es k ≡ o → k < length es
    go (Some x) f = slice_get_within es k x f
    go None f =
        absurd (cc (sym (ap (by_region es i) e ∙ ap (option_map (λ (y : Entry). work_with i (Some y.region))) f) ∙ h))

-- the code at an item's region
pub code_there : (es : List Entry) (items : List Item) (works : List Work) (codes : List Region) →
    all_shown es items ≡ as_shown works → codes ≡ map region_of es → (i : ℕ) (item : Item) (k : ℕ) →
    i < length works → slice_get items i ≡ Some item → item.region ≡ Some k → k < length codes
code_there es items works codes e f i item k l g h = go (slice_get works i) refl
  where
    go : (o : Option Work) → slice_get works i ≡ o → k < length codes
    go None n = let m = past_end works i n in absurd (omega arith)
    go (Some w) n =
        let t = shown_there es item w k h (work_at es items works e i item w g n) in
        let long = ap (λ xs. length xs) f ∙ length-map es region_of in
        omega arith

pub code_some : (es : List Entry) (items : List Item) (works : List Work) (codes : List Region) →
    all_shown es items ≡ as_shown works → codes ≡ map region_of es → (i : ℕ) (item : Item) (w : Work) (k : ℕ)
    (x : Region) → slice_get items i ≡ Some item → slice_get works i ≡ Some w → item.region ≡ Some k →
    slice_get codes k ≡ Some x → IsRegionOf w.region x
code_some es items works codes e f i item w k x g n h r = go (slice_get es k) refl
  where
    is : shown es item ≡ Some w
    is = work_at es items works e i item w g n

    at : slice_get codes k ≡ option_map region_of (slice_get es k)
    at = ap (λ xs. slice_get xs k) f ∙ slice_get-map region_of es k

    go : (o : Option Entry) → slice_get es k ≡ o → IsRegionOf w.region x
    go None m = absurd (cc (sym r ∙ at ∙ ap (option_map region_of) m))
    go (Some y) m =
        let p : ◌≡◌ {A = Option Region} (Some x) (Some y.region) = sym r ∙ at ∙ ap (option_map region_of) m in
        let same : x ≡ y.region = cc p in
        subst (λ (v : Work). IsRegionOf v.region x) (shown_some es item w k y h m is) same

pub code_none : (es : List Entry) (items : List Item) (works : List Work) → all_shown es items ≡ as_shown works →
    (i : ℕ) (item : Item) (w : Work) (x : Region) → slice_get items i ≡ Some item → slice_get works i ≡ Some w →
    item.region ≡ None → x.body.items ≡ [] → IsRegionOf w.region x
code_none es items works e i item w x g n h z =
    subst (λ (v : Work). IsRegionOf v.region x) (shown_none es item w h (work_at es items works e i item w g n)) z
