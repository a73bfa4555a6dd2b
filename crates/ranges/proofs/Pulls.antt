-- Of accesses of which those of one array move on by as much in each turn, the first of those that are furthest ahead
-- comes first with all its turns.
use Rattle.std.proofs.Common.{◌≡◌, ℕ, zero, suc, ◌+◌, ◌-◌, ◌*◌, ◌<◌, ◌≤◌, Bool, true, false, List, [], ◌∷◌, ◌++◌, map, eqb-true, refl, sym, ap, ◌∙◌, arith}
use Rattle.std.specs.Prelude.{◌&&◌, ◌==◌, slice_index}
use Rattle.std.proofs.Math.Nat.{mul-le-mul_left, one-le-mul}
use Rattle.std.proofs.lemmas.Bool.Decides.{nat_tests}
use Rattle.std.proofs.lemmas.List.{map-append}
use Rattle.base.specs.Interval.{exactly}
use Rattle.base.specs.Footprint.{Touch}
use Rattle.ranges.specs.declared.slide.Slide.{Slide}
use Rattle.ranges.specs.Rows.{is_within}
use Rattle.ranges.specs.Seen.{Seen, after, after_touch}
use Rattle.ranges.specs.Slides.{AllFit, AllMoveBy, AllStart, AreBelow, Fits, slide_touch, slide_turns}
use Rattle.ranges.proofs.Swaps.{AllApart, AreApart, BothApart, Stays, touch_first, touches_first}
use Rattle.ranges.proofs.Walked.{after_append}

apart_where : (a b p q : Bool) → (a ≡ true → b ≡ true → p ≡ true → q ≡ true → ⊥) → ((a && p) && (b && q)) ≡ false
apart_where false b p q h = refl
apart_where true b false q h = refl
apart_where true false true q h = refl
apart_where true true true true h = absurd (h refl refl refl refl)
apart_where true true true false h = refl

one_cell : (x y i : ℕ) → x < y → is_within (exactly x) i ≡ true → is_within (exactly y) i ≡ true → ⊥
one_cell x y i lt h k = grind (arith, nat_tests, lt, h, k)

module _ (lengths : List ℕ) (step count : ℕ) where
  abbrev pub run : ℕ → ℕ → Slide → List Touch
  run n k s = slide_turns step n k (s ∷ [])

  pub stays : (s : Slide) (k : ℕ) → k < count → Fits lengths count s → Stays lengths (slide_touch k s)
  stays s k lt fits =
      let most : k ≤ count - 1 = omega (arith, lt) in
      let last = fits.inside in
      let no_more = mul-le-mul_left s.slope most in
      let below : s.start + s.slope * k < slice_index lengths s.array.0 = omega (arith, last, no_more) in
      grind (arith, nat_tests, below)

  -- of two of one array one is behind
  abbrev IsBehind : Slide → ℕ → Slide → ℕ → Type 0
  IsBehind p k s m = p.array.0 ≡ s.array.0 → p.start + p.slope * k < s.start + s.slope * m

  less_apart : (p s : Slide) (k m : ℕ) → IsBehind p k s m → AreApart (slide_touch k p) (slide_touch m s)
  less_apart p s k m behind c =
      apart_where (p.array.0 == c.array.0) (s.array.0 == c.array.0) (is_within (exactly (p.start + p.slope * k)) c.index)
      (is_within (exactly (s.start + s.slope * m)) c.index)
      (λ one other. one_cell (p.start + p.slope * k) (s.start + s.slope * m) c.index
      (behind (eqb-true p.array.0 c.array.0 one ∙ sym (eqb-true s.array.0 c.array.0 other))))

  module _ (f : ℕ → ℕ) (s : Slide) (by : s.slope ≡ f s.array.0) where
    behind : (x : ℕ) (p : Slide) (k m : ℕ) → x + s.slope * k ≤ s.start + s.slope * m → p.start < x → p.slope ≡ f p.array.0 →
        IsBehind p k s m
    behind x p k m le below is same =
        let alike : p.slope ≡ s.slope = is ∙ ap f same ∙ sym by in
        let as_far = ap (λ n. n * k) alike in
        omega (arith, le, below, as_far)

    -- those that begin below x
    all_apart : (x : ℕ) (ps : List Slide) (k m : ℕ) → x + s.slope * k ≤ s.start + s.slope * m → k < count →
        AllFit lengths count ps → AllMoveBy f ps → AllStart x ps → AllApart lengths (slide_touch m s) (map (slide_touch k) ps)
    all_apart x [] k m le lt fit alike h = tt
    all_apart x (p ∷ ps) k m le lt fit alike h = (
      (stays p k lt fit.0, less_apart p s k m (behind x p k m le h.0 alike.0)),
      all_apart x ps k m le lt fit.1 alike.1 h.1,
    )

    further : (m : ℕ) → s.slope * m ≤ s.slope * (m + step)
    further m = mul-le-mul_left s.slope (omega arith)

    run_apart : (x : ℕ) (ps : List Slide) (n k m : ℕ) → x + s.slope * k ≤ s.start + s.slope * m → k < count →
        AreBelow step count n m → Fits lengths count s → AllFit lengths count ps → AllMoveBy f ps → AllStart x ps →
        BothApart lengths (map (slide_touch k) ps) (run n m s)
    run_apart x ps zero k m le lt most fits fit alike h = tt
    run_apart x ps (suc n) k m le lt most fits fit alike h =
        let more = further m in (
          (stays s m most.0 fits, all_apart x ps k m le lt fit alike h),
          run_apart x ps n k (m + step) (omega (arith, le, more)) lt most.1 fits fit alike h,
        )

    -- a turn later it is further on
    later : (k : ℕ) → 1 ≤ s.slope → 1 ≤ step → s.start + 1 + s.slope * k ≤ s.start + s.slope * (k + step)
    later k moves some = let one = one-le-mul moves some in omega (arith, one)

  start_more : (x y : ℕ) (ps : List Slide) → x ≤ y → AllStart x ps → AllStart y ps
  start_more x y [] le h = tt
  start_more x y (p ∷ ps) le h = let below = h.0 in (omega (arith, below, le), start_more x y ps le h.1)

  start_both : (x : ℕ) (ps qs : List Slide) → AllStart x ps → AllStart x qs → AllStart x (ps ++ qs)
  start_both x [] qs h k = k
  start_both x (p ∷ ps) qs h k = (h.0, start_both x ps qs h.1 k)

  pub fit_both : (ps qs : List Slide) → AllFit lengths count ps → AllFit lengths count qs → AllFit lengths count (ps ++ qs)
  fit_both [] qs h k = k
  fit_both (p ∷ ps) qs h k = (h.0, fit_both ps qs h.1 k)

  pub alike_both : (f : ℕ → ℕ) (ps qs : List Slide) → AllMoveBy f ps → AllMoveBy f qs → AllMoveBy f (ps ++ qs)
  alike_both f [] qs h k = k
  alike_both f (p ∷ ps) qs h k = (h.0, alike_both f ps qs h.1 k)

  -- one of them comes first with all its turns
  pub pull : (f : ℕ → ℕ) (n k : ℕ) (pre post : List Slide) (s : Slide) (x : Seen) → 1 ≤ step → AreBelow step count n k →
      Fits lengths count s → AllFit lengths count pre → AllFit lengths count post → s.slope ≡ f s.array.0 → AllMoveBy f pre →
      AllMoveBy f post → AllStart s.start pre → AllStart (s.start + 1) post →
      after lengths (slide_turns step n k (pre ++ s ∷ post)) x
      ≡ after lengths (slide_turns step n k (pre ++ post)) (after lengths (run n k s) x)
  pull f zero k pre post s x some most fits pf qf by pa qa less more = refl
  pull f (suc n) k pre post s x some most fits pf qf by pa qa less more =
      after_append lengths (map touch (pre ++ s ∷ post)) (slide_turns step n (k + step) (pre ++ s ∷ post)) x
      ∙ pull f n (k + step) pre post s (after lengths (map touch (pre ++ s ∷ post)) x) some most.1 fits pf qf by pa qa less more
      ∙ ap (λ y. after lengths (slide_turns step n (k + step) (pre ++ post)) (after lengths (run n (k + step) s) y)) this_turn
      ∙ ap (after lengths (slide_turns step n (k + step) (pre ++ post)))
      (touches_first lengths (map touch (pre ++ post)) (run n (k + step) s) (after_touch lengths (touch s) x)
      (run_apart f s by (s.start + 1) (pre ++ post) n k (k + step) (later f s by k fits.moves some) most.0 most.1 fits
      (fit_both pre post pf qf) (alike_both f pre post pa qa)
      (start_both (s.start + 1) pre post (start_more s.start (s.start + 1) pre (omega arith) less) more)))
      ∙ sym (after_append lengths (map touch (pre ++ post)) (slide_turns step n (k + step) (pre ++ post))
      (after lengths (run (suc n) k s) x))
    where
      touch : Slide → Touch
      touch = slide_touch k

      this_turn : after lengths (map touch (pre ++ s ∷ post)) x
          ≡ after lengths (map touch (pre ++ post)) (after_touch lengths (touch s) x)
      this_turn =
          ap (λ ts. after lengths ts x) (map-append touch pre (s ∷ post))
          ∙ after_append lengths (map touch pre) (map touch (s ∷ post)) x
          ∙ ap (after lengths (map touch post))
          (touch_first lengths (map touch pre) (touch s) x (stays s k most.0 fits)
          (all_apart f s by s.start pre k k (omega arith) most.0 pf pa less))
          ∙ sym (after_append lengths (map touch pre) (map touch post) (after_touch lengths (touch s) x))
          ∙ ap (λ ts. after lengths ts (after_touch lengths (touch s) x)) (sym (map-append touch pre post))
