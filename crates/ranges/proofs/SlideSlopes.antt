-- By how much the accesses of one array move on.
use Rattle.std.proofs.Common.{◌≡◌, ℕ, ◌+◌, ◌<◌, List, [], ◌∷◌, ◌++◌, length, get_or, take, sym, subst}
use Rattle.std.proofs.lemmas.List.{take_more}
use Rattle.ranges.specs.declared.slide.Slide.{Slide}
use Rattle.ranges.specs.Slides.{AllMoveBy}

-- one more of them
one_moves : (f : ℕ → ℕ) (slides : List Slide) (s : Slide) → AllMoveBy f slides → s.slope ≡ f s.array.0 → AllMoveBy f (slides ++ s ∷ [])
one_moves f [] s h is = (is, tt)
one_moves f (t ∷ slides) s h is = (h.0, one_moves f slides s h.1 is)

pub more_move : (f : ℕ → ℕ) (slides : List Slide) (i : ℕ) (d : Slide) → i < length slides → AllMoveBy f (take i slides) →
    (get_or slides i d).slope ≡ f (get_or slides i d).array.0 → AllMoveBy f (take (i + 1) slides)
more_move f slides i d lt h by =
    subst (AllMoveBy f) (sym (take_more slides i d lt)) (one_moves f (take i slides) (get_or slides i d) h by)
