-- The access that is furthest ahead, and the others before it and behind it.
use Rattle.std.proofs.Common.{◌≡◌, ℕ, zero, suc, ◌+◌, ◌<◌, ◌≤◌, List, [], ◌∷◌, ◌++◌, length, get_or, take, drop, refl, sym, ap, ◌∙◌, ⊎_elim, subst, arith}
use Rattle.std.specs.Prelude.{slice_index}
use Rattle.std.proofs.lemmas.Bool.{cases_lt}
use Rattle.std.proofs.lemmas.List.{length-map}
use Rattle.ranges.specs.declared.slide.Slide.{Slide}
use Rattle.ranges.specs.Slides.{AllStart, IsLater, IsLatest, IsTaken, starts}

-- of the first n the first of those that are furthest ahead stands at m
pub record IsAhead (firsts : List ℕ) (n m : ℕ) : Type 0 where
  pub here : m < n
  pub less : (k : ℕ) → k < m → slice_index firsts k < slice_index firsts m
  pub no_more : (k : ℕ) → k < n → slice_index firsts k ≤ slice_index firsts m

pub first_ahead : (firsts : List ℕ) → IsAhead firsts 1 0
first_ahead firsts = record {
  here = omega arith;
  less = λ k lt. absurd (omega (arith, lt));
  no_more = λ k lt. let e : 0 ≡ k = omega (arith, lt) in
      subst (λ j. slice_index firsts j ≤ slice_index firsts 0) e (omega arith);
}

pub next_ahead : (firsts : List ℕ) (n l m : ℕ) → IsAhead firsts n l → IsLater firsts l n m → IsAhead firsts (n + 1) m
next_ahead firsts n l m h = ⊎_elim
    (λ (new : (m ≡ n) × (slice_index firsts l < slice_index firsts n)).
    subst (IsAhead firsts (n + 1)) (sym new.0) (record {
      here = omega arith;
      less = λ k lt. let le = h.no_more k lt in let more = new.1 in omega (arith, le, more);
      no_more = λ k lt. ⊎_elim
          (λ (old : k < n). let le = h.no_more k old in let more = new.1 in omega (arith, le, more))
          (λ (last : n ≤ k). let e : n ≡ k = omega (arith, last, lt) in
          subst (λ j. slice_index firsts j ≤ slice_index firsts n) e (omega arith))
          (cases_lt k n);
    }))
    (λ (old : (m ≡ l) × (slice_index firsts n ≤ slice_index firsts l)).
    subst (IsAhead firsts (n + 1)) (sym old.0) (record {
      here = let lower = h.here in omega (arith, lower);
      less = h.less;
      no_more = λ k lt. ⊎_elim (λ (before : k < n). h.no_more k before)
          (λ (last : n ≤ k). let e : n ≡ k = omega (arith, last, lt) in
          subst (λ j. slice_index firsts j ≤ slice_index firsts l) e old.1)
          (cases_lt k n);
    }))

-- those at these places begin below x
all_start : (x : ℕ) (slides : List Slide) → ((k : ℕ) → k < length slides → slice_index (starts slides) k < x) → AllStart x slides
all_start x [] h = tt
all_start x (s ∷ slides) h = (h 0 (omega arith), all_start x slides (λ k lt. h (suc k) (omega (arith, lt))))

-- a list is what stands before a place, at it and behind it
pub split_at : {A : Type 0} (xs : List A) (p : ℕ) (x : A) → p < length xs → x ≡ get_or xs p x →
    xs ≡ take p xs ++ x ∷ drop (suc p) xs
split_at [] p x lt is = absurd (omega (arith, lt))
split_at (y ∷ xs) zero x lt is = ap (λ z. z ∷ xs) (sym is)
split_at (y ∷ xs) (suc p) x lt is = ap (λ zs. y ∷ zs) (split_at xs p x (omega (arith, lt)) is)

start_in_take : (slides : List Slide) (p k : ℕ) → k < length (take p slides) → slice_index (starts (take p slides)) k ≡ slice_index (starts slides) k
start_in_take slides zero k lt = absurd (omega (arith, lt))
start_in_take [] (suc p) k lt = absurd (omega (arith, lt))
start_in_take (t ∷ slides) (suc p) zero lt = refl
start_in_take (t ∷ slides) (suc p) (suc k) lt = start_in_take slides p k (omega (arith, lt))

in_take : (slides : List Slide) (p k : ℕ) → k < length (take p slides) → k < p
in_take slides zero k lt = absurd (omega (arith, lt))
in_take [] (suc p) k lt = absurd (omega (arith, lt))
in_take (t ∷ slides) (suc p) zero lt = omega arith
in_take (t ∷ slides) (suc p) (suc k) lt = let l = in_take slides p k (omega (arith, lt)) in omega (arith, l)

start_in_drop : (slides : List Slide) (p k : ℕ) → slice_index (starts (drop p slides)) k ≡ slice_index (starts slides) (p + k)
start_in_drop slides zero k = let e : k ≡ 0 + k = omega arith in ap (λ j. slice_index (starts slides) j) e
start_in_drop [] (suc p) k = refl
start_in_drop (t ∷ slides) (suc p) k =
    let e : suc (p + k) ≡ suc p + k = omega arith in
    start_in_drop slides p k ∙ ap (λ j. slice_index (starts (t ∷ slides)) j) e

in_drop : (slides : List Slide) (p k : ℕ) → k < length (drop p slides) → p + k < length slides
in_drop slides zero k lt = let l : k < length slides = lt in omega (arith, l)
in_drop [] (suc p) k lt = absurd (omega (arith, lt))
in_drop (t ∷ slides) (suc p) k lt = let l = in_drop slides p k lt in omega (arith, l)

pub start_at : (slides : List Slide) (p : ℕ) (s : Slide) → p < length slides → s ≡ get_or slides p s → slice_index (starts slides) p ≡ s.start
start_at [] p s lt is = absurd (omega (arith, lt))
start_at (t ∷ slides) zero s lt is = ap (λ (u : Slide). u.start) (sym is)
start_at (t ∷ slides) (suc p) s lt is = start_at slides p s (omega (arith, lt)) is

pub ahead_is_latest : (slides : List Slide) (n m : ℕ) → n ≤ length slides → length slides ≤ n → IsAhead (starts slides) n m →
    IsLatest (starts slides) m
ahead_is_latest slides n m le ge h =
    let many = length-map slides (λ s. s.start) in
    let here = h.here in
    record {
      inside = omega (arith, many, here, le);
      less = h.less;
      no_more = λ i lt. h.no_more i (omega (arith, many, lt, ge));
    }

-- the latest one is taken
pub latest_taken : (slides : List Slide) (p : ℕ) (s : Slide) (new : List Slide) → IsLatest (starts slides) p →
    s ≡ get_or slides p s → new ≡ take p slides ++ drop (suc p) slides → IsTaken slides s new
latest_taken slides p s new h is new_is = record {
  before = take p slides;
  behind = drop (suc p) slides;
  old_is = split_at slides p s inside is;
  new_is = new_is;
  less = all_start s.start (take p slides) (λ k lt.
      let l = h.less k (in_take slides p k lt) in
      let e = start_in_take slides p k lt in
      let f = start_at slides p s inside is in omega (arith, l, e, f));
  no_more = all_start (s.start + 1) (drop (suc p) slides) (λ k lt.
      let many = length-map slides (λ u. u.start) in
      let within = in_drop slides (suc p) k lt in
      let l = h.no_more (suc p + k) (omega (arith, many, within)) in
      let e = start_in_drop slides (suc p) k in
      let f = start_at slides p s inside is in omega (arith, l, e, f));
}
  where
    inside : p < length slides
    inside = let many = length-map slides (λ u. u.start) in let lt = h.inside in omega (arith, many, lt)
