-- All turns of the access that is furthest ahead, and then those of the others.
use Rattle.std.proofs.Common.{◌≡◌, ℕ, zero, suc, ◌+◌, ◌-◌, ◌*◌, ◌/◌, ◌==◌, ◌<◌, ◌≤◌, Bool, List, [], ◌∷◌, ◌++◌, refl, sym, ap, ap₂, ◌∙◌, subst, arith}
use Rattle.std.specs.Prelude.{◌&&◌}
use Rattle.std.proofs.Math.Nat.{div-div-eq-div-mul, mul-div_cancel_left, one-le-mul}
use Rattle.base.specs.declared.item.Cell.{Cell}
use Rattle.base.specs.declared.tree.Bounds.{Bounds}
use Rattle.base.specs.Meaning.{turns_of}
use Rattle.ranges.specs.declared.slide.Slide.{Slide}
use Rattle.ranges.specs.Seen.{Seen, after}
use Rattle.ranges.specs.Slides.{AllFit, AllMoveBy, AreBelow, Fits, IsTaken, is_every, is_in_turn, slide_turns, with_run}
use Rattle.ranges.proofs.Pulls.{alike_both, fit_both, pull, run}
use Rattle.ranges.proofs.SlideRuns.{cells_in, run_is}
use Rattle.ranges.proofs.SlidingTurns.{turns_below}

module _ (lengths : List ℕ) (count : ℕ) where
  fit_before : (ps qs : List Slide) → AllFit lengths count (ps ++ qs) → AllFit lengths count ps
  fit_before [] qs h = tt
  fit_before (p ∷ ps) qs h = (h.0, fit_before ps qs h.1)

  fit_behind : (ps qs : List Slide) → AllFit lengths count (ps ++ qs) → AllFit lengths count qs
  fit_behind [] qs h = h
  fit_behind (p ∷ ps) qs h = fit_behind ps qs h.1

  module _ (f : ℕ → ℕ) where
    alike_before : (ps qs : List Slide) → AllMoveBy f (ps ++ qs) → AllMoveBy f ps
    alike_before [] qs h = tt
    alike_before (p ∷ ps) qs h = (h.0, alike_before ps qs h.1)

    alike_behind : (ps qs : List Slide) → AllMoveBy f (ps ++ qs) → AllMoveBy f qs
    alike_behind [] qs h = h
    alike_behind (p ∷ ps) qs h = alike_behind ps qs h.1

  module _ (old new : List Slide) (s : Slide) (taken : IsTaken old s new) (fit : AllFit lengths count old) where
    split : AllFit lengths count (taken.before ++ s ∷ taken.behind)
    split = subst (AllFit lengths count) taken.old_is fit

    pub taken_fits : Fits lengths count s
    taken_fits = (fit_behind taken.before (s ∷ taken.behind) split).0

    pub others_fit : AllFit lengths count new
    others_fit = subst (AllFit lengths count) (sym taken.new_is)
        (fit_both lengths 0 count taken.before taken.behind (fit_before taken.before (s ∷ taken.behind) split)
        (fit_behind taken.before (s ∷ taken.behind) split).1)

    module _ (f : ℕ → ℕ) (alike : AllMoveBy f old) where
      alike_split : AllMoveBy f (taken.before ++ s ∷ taken.behind)
      alike_split = subst (AllMoveBy f) taken.old_is alike

      pub others_alike : AllMoveBy f new
      others_alike = subst (AllMoveBy f) (sym taken.new_is)
          (alike_both lengths 0 count f taken.before taken.behind (alike_before f taken.before (s ∷ taken.behind) alike_split)
          (alike_behind f taken.before (s ∷ taken.behind) alike_split).1)

    pub taken_first : (f : ℕ → ℕ) → AllMoveBy f old → (step n : ℕ) (x : Seen) → 1 ≤ step → AreBelow step count n 0 →
        after lengths (slide_turns step n 0 new) (with_run s (cells_in s step n 0) x)
        ≡ after lengths (slide_turns step n 0 old) x
    taken_first f alike step n x some below =
        ap (after lengths (slide_turns step n 0 new)) (sym (run_is lengths step count n 0 s x below taken_fits))
        ∙ ap (λ (zs : List Slide). after lengths (slide_turns step n 0 zs) (after lengths (run lengths step count n 0 s) x)) taken.new_is
        ∙ sym (pull lengths step count f n 0 taken.before taken.behind s x some below taken_fits
        (fit_before taken.before (s ∷ taken.behind) split) (fit_behind taken.before (s ∷ taken.behind) split).1
        (alike_behind f taken.before (s ∷ taken.behind) parts).0 (alike_before f taken.before (s ∷ taken.behind) parts)
        (alike_behind f taken.before (s ∷ taken.behind) parts).1 taken.less taken.no_more)
        ∙ ap (λ (zs : List Slide). after lengths (slide_turns step n 0 zs) x) (sym taken.old_is)
      where
        parts : AllMoveBy f (taken.before ++ s ∷ taken.behind)
        parts = alike_split f alike

-- the accesses in no turn are none
pub no_slides : (lengths : List ℕ) (step n k : ℕ) (x : Seen) → after lengths (slide_turns step n k []) x ≡ x
no_slides lengths step zero k x = refl
no_slides lengths step (suc n) k x = no_slides lengths step n (k + step) x

-- the cells of a slide in the turns of a loop
pub record AreCellsOf (s : Slide) (turns cells : Bounds) : Type 0 where
  pub first : cells.first ≡ s.start
  pub end : cells.end ≡ s.start + s.slope * (turns.end - turns.first - 1) + 1
  pub step : cells.step ≡ s.slope * turns.step

-- there are as many as turns
as_many : (slope last step : ℕ) → 1 ≤ slope → 1 ≤ step →
    (slope * last + 1 + (slope * step - 1)) / (slope * step) ≡ (last + 1 + (step - 1)) / step
as_many slope last step moves some =
    ap (λ m. m / (slope * step)) multiple
    ∙ sym (div-div-eq-div-mul (slope * (last + 1 + (step - 1))) slope step)
    ∙ ap (λ m. m / step) (mul-div_cancel_left (last + 1 + (step - 1)) (omega (arith, moves)))
  where
    multiple : slope * last + 1 + (slope * step - 1) ≡ slope * (last + 1 + (step - 1))
    multiple =
        let one = one-le-mul moves some in
        let all : last + 1 + (step - 1) ≡ last + step = omega (arith, some) in
        let both : slope * (last + step) ≡ slope * last + slope * step = grind arith in
        omega (arith, one, both, ap (λ m. slope * m) all)

cells_are : (s : Slide) (turns cells : Bounds) → turns.first < turns.end → 1 ≤ s.slope → AreCellsOf s turns cells →
    is_in_turn s.array cells ≡ cells_in s turns.step (turns_of turns) 0
cells_are s turns cells ahead moves is = λ i c. (s.array.0 == c.array.0) && is_every (is.step i) (many i) (from i) c.index
  where
    from : cells.first ≡ s.start + s.slope * 0
    from = let first = is.first in omega (arith, first)

    long : cells.end - cells.first ≡ s.slope * (turns.end - turns.first - 1) + 1
    long = let first = is.first in let end = is.end in omega (arith, first, end)

    last : turns.end - turns.first - 1 + 1 ≡ turns.end - turns.first
    last = omega (arith, ahead)

    many : (cells.end - cells.first + (cells.step - 1)) / cells.step ≡ (turns.end - turns.first + (turns.step - 1)) / turns.step
    many =
        ap₂ (λ m n. (m + (n - 1)) / n) long is.step
        ∙ as_many s.slope (turns.end - turns.first - 1) turns.step moves turns.step_not_zero
        ∙ ap (λ m. (m + (turns.step - 1)) / turns.step) last

-- the one that is furthest ahead was done, and the others are left
pub next_run : (lengths : List ℕ) (turns cells : Bounds) (f : ℕ → ℕ) (old new : List Slide) (s : Slide) (x seen : Seen) →
    turns.first < turns.end → IsTaken old s new → AllFit lengths (turns.end - turns.first) old → AllMoveBy f old →
    AreCellsOf s turns cells → seen ≡ with_run s (is_in_turn s.array cells) x →
    after lengths (slide_turns turns.step (turns_of turns) 0 new) seen
    ≡ after lengths (slide_turns turns.step (turns_of turns) 0 old) x
next_run lengths turns cells f old new s x seen ahead taken fit alike are is =
    let none : turns.first - turns.first ≡ 0 = omega arith in
    let moves = (taken_fits lengths (turns.end - turns.first) old new s taken fit).moves in
    ap (after lengths (slide_turns turns.step (turns_of turns) 0 new))
    (is ∙ ap (λ (p : Cell → Bool). with_run s p x) (cells_are s turns cells ahead moves are))
    ∙ taken_first lengths (turns.end - turns.first) old new s taken fit f alike turns.step (turns_of turns) x turns.step_not_zero
    (subst (AreBelow turns.step (turns.end - turns.first) (turns_of turns)) none
    (turns_below turns (turns_of turns) turns.first refl (omega arith)))
