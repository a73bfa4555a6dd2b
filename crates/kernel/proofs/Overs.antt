-- A run of a list that is written over.
use Rattle.std.proofs.Common.{◌≡◌, ℕ, ◌+◌, ◌-◌, ◌<◌, ◌≤◌, ◌==◌, Bool, true, false, List, length, get_or, set, Option, Some, None, refl, sym, ap, ◌∙◌, arith, length-set, if◌then◌else◌, eqb-true, leb-true, leb-false}
use Rattle.std.specs.Prelude.{slice_get, slice_set, nat_le, nat_lt, ◌&&◌}
use Rattle.std.proofs.lemmas.Bool.{eqb-false}
use Rattle.std.proofs.lemmas.Option.{slice_get-get_or}
use Rattle.std.proofs.lemmas.Bool.Decides.{nat_tests}
use Rattle.base.specs.Rows.{at_index}
use Rattle.base.proofs.Places.{get_set_same, get_set_other}
use Rattle.lanes.specs.Apart.{in_block}
use Rattle.kernel.specs.Lanes.{Over, all_of, some_of}

never : (p : Bool) → (p && false) ≡ false
never true = refl
never false = refl

always : (p : Bool) → (p && true) ≡ p
always true = refl
always false = refl

nothing_in : (at k : ℕ) → (nat_le at k && nat_lt k (at + 0)) ≡ false
nothing_in at k = grind (arith, nat_tests)

last_in : (at n k : ℕ) → at + n ≡ k → (nat_le at k && nat_lt k (at + (n + 1))) ≡ true
last_in at n k h = grind (arith, nat_tests)

same_in : (at n k : ℕ) → (at + n == k) ≡ false → (nat_le at k && nat_lt k (at + n)) ≡ (nat_le at k && nat_lt k (at + (n + 1)))
same_in at n k h = grind (arith, nat_tests)

pub over_none : (A : Type 0) (part : ℕ → Bool) (f : ℕ → A) (at : ℕ) (xs : List A) → Over A part f at 0 xs xs
over_none A part f at xs =
    record {
      size = refl;
      each = λ k. sym (ap (λ q. if part (k - at) && q then Some (f (k - at)) else slice_get xs k) (nothing_in at k)
          ∙ ap (λ q. if q then Some (f (k - at)) else slice_get xs k) (never (part (k - at))));
    }

before_it : (at n k : ℕ) → at + n ≡ k → (nat_le at k && nat_lt k (at + n)) ≡ false
before_it at n k h = grind (arith, nat_tests)

module _ (A : Type 0) (part : ℕ → Bool) (f : ℕ → A) (at n : ℕ) (xs ys : List A) (v w : A) (lt : at + n < length ys)
    (there : slice_get ys (at + n) ≡ Some w) (h : Over A part f at n xs ys) (is : v ≡ (if part n then f n else w)) where
  -- the element at a place, where it is the next one
  here : (k : ℕ) → at + n ≡ k → (p : Bool) → part n ≡ p →
      Some (if p then f n else w) ≡ (if p then Some (f (k - at)) else slice_get xs k)
  here k j true e = let m : n ≡ k - at = omega arith in ap (λ i. Some (f i)) m
  here k j false e =
      sym there ∙ ap (slice_get ys) j ∙ h.each k
      ∙ ap (λ q. if part (k - at) && q then Some (f (k - at)) else slice_get xs k) (before_it at n k j)
      ∙ ap (λ q. if q then Some (f (k - at)) else slice_get xs k) (never (part (k - at)))

  pub over_some : Over A part f at (n + 1) xs (set ys (at + n) v)
  over_some = record { size = length-set ys (at + n) v ∙ h.size; each = λ k. go k (at + n == k) refl }
    where
      go : (k : ℕ) (q : Bool) → (at + n == k) ≡ q → slice_get (slice_set ys (at + n) v) k
          ≡ (if part (k - at) && (nat_le at k && nat_lt k (at + (n + 1))) then Some (f (k - at)) else slice_get xs k)
      go k true e =
          let j = eqb-true (at + n) k e in
          let m : n ≡ k - at = omega arith in
          ap (slice_get (slice_set ys (at + n) v)) (sym j) ∙ get_set_same ys (at + n) v lt ∙ ap Some is
          ∙ here k j (part n) refl
          ∙ ap (λ q. if q then Some (f (k - at)) else slice_get xs k) (ap part m ∙ sym (always (part (k - at))))
          ∙ sym (ap (λ q. if part (k - at) && q then Some (f (k - at)) else slice_get xs k) (last_in at n k j))
      go k false e =
          get_set_other ys (at + n) v k (eqb-false (at + n) k e) ∙ h.each k
          ∙ ap (λ q. if part (k - at) && q then Some (f (k - at)) else slice_get xs k) (same_in at n k e)

-- and where all take part
pub over_more : (A : Type 0) (f : ℕ → A) (at n : ℕ) (xs ys : List A) (v : A) → at + n < length ys → Over A all_of f at n xs ys →
    v ≡ f n → Over A all_of f at (n + 1) xs (set ys (at + n) v)
over_more A f at n xs ys v lt h is = over_some A all_of f at n xs ys v (get_or ys (at + n) v) lt (slice_get-get_or ys (at + n) v lt) h is

shifted_in : (from first n i : ℕ) → from ≤ first → from ≤ i →
    (nat_le (first - from) (i - from) && nat_lt (i - from) (first - from + n)) ≡ in_block first n i
shifted_in from first n i h k = grind (arith, nat_tests)

out_of : (from first n i : ℕ) → from ≤ first → i < from → in_block first n i ≡ false
out_of from first n i h k = grind (arith, nat_tests)

-- the same by index
pub row_over : (A : Type 0) (part : ℕ → Bool) (f : ℕ → A) (from first n : ℕ) (xs ys : List A) (i : ℕ) → from ≤ first →
    Over A part f (first - from) n xs ys →
    at_index from ys i ≡ (if some_of part first n i then Some (f (i - first)) else at_index from xs i)
row_over A part f from first n xs ys i le h = go (nat_le from i) refl
  where
    go : (q : Bool) → nat_le from i ≡ q →
        elim q as (λ x. Option A) [ true ↦ slice_get ys (i - from) | false ↦ None ]
        ≡ (if some_of part first n i then Some (f (i - first)) else elim q as (λ x. Option A) [ true ↦ slice_get xs (i - from) | false ↦ None ])
    go true e =
        let low = leb-true from i e in
        let m : i - from - (first - from) ≡ i - first = omega arith in
        h.each (i - from)
        ∙ ap (λ q. if part (i - from - (first - from)) && q then Some (f (i - from - (first - from))) else slice_get xs (i - from))
        (shifted_in from first n i le low)
        ∙ ap (λ j. if part j && in_block first n i then Some (f j) else slice_get xs (i - from)) m
    go false e =
        let low = leb-false from i e in
        let none : None ≡ (if false then Some (f (i - first)) else None) = refl in
        none ∙ sym (ap (λ q. if part (i - first) && q then Some (f (i - first)) else None) (out_of from first n i le (omega arith))
        ∙ ap (λ q. if q then Some (f (i - first)) else None) (never (part (i - first))))
