-- Lists of several parts, of which one is written over.
use Rattle.std.proofs.Common.{◌≡◌, ℕ, suc, ◌+◌, ◌-◌, ◌<◌, ◌≤◌, Bool, true, false, List, [], ◌∷◌, ◌++◌, length, Option, Some, None, refl, sym, ap, ◌∙◌, arith, length-append, if◌then◌else◌, leb-true}
use Rattle.std.specs.Prelude.{slice_get, nat_le, nat_lt, ◌&&◌}
use Rattle.std.proofs.lemmas.Bool.{and_parts, ltb-true, ltb-false}
use Rattle.std.proofs.lemmas.Bool.Decides.{nat_tests}
use Rattle.std.proofs.lemmas.Option.{same_Some}
use Rattle.base.proofs.Places.{get_left, get_right}
use Rattle.kernel.specs.Lanes.{Over, all_of}

-- nothing else is what it became
same_gets : {A : Type 0} (xs ys : List A) → ((k : ℕ) → slice_get xs k ≡ slice_get ys k) → xs ≡ ys
same_gets [] [] h = refl
same_gets {A} [] (y ∷ ys) h = let e : ◌≡◌ {A = Option A} None (Some y) = h 0 in absurd cc
same_gets {A} (x ∷ xs) [] h = let e : ◌≡◌ {A = Option A} (Some x) None = h 0 in absurd cc
same_gets (x ∷ xs) (y ∷ ys) h = λ i. same_Some x y (h 0) i ∷ same_gets xs ys (λ k. h (suc k)) i

pub over_alike : (A : Type 0) (part : ℕ → Bool) (f : ℕ → A) (at n : ℕ) (xs ys zs : List A) → Over A part f at n xs ys →
    Over A part f at n xs zs → ys ≡ zs
over_alike A part f at n xs ys zs h k = same_gets ys zs (λ i. h.each i ∙ sym (k.each i))

-- what is there already
pub over_same : (A : Type 0) (f : ℕ → A) (at n : ℕ) (xs : List A) →
    ((k : ℕ) → at ≤ k → k < at + n → slice_get xs k ≡ Some (f (k - at))) → Over A all_of f at n xs xs
over_same A f at n xs h = record { size = refl; each = λ k. go k (nat_le at k && nat_lt k (at + n)) refl }
  where
    go : (k : ℕ) (q : Bool) → (nat_le at k && nat_lt k (at + n)) ≡ q →
        slice_get xs k ≡ (if q then Some (f (k - at)) else slice_get xs k)
    go k true e =
        let p = and_parts (nat_le at k) (nat_lt k (at + n)) e in
        h k (leb-true at k p.0) (ltb-true k (at + n) p.1)
    go k false e = refl

outside : (at n k : ℕ) → at + n ≤ k → (nat_le at k && nat_lt k (at + n)) ≡ false
outside at n k h = grind (arith, nat_tests)

below : (at n k : ℕ) → k < at → (nat_le at k && nat_lt k (at + n)) ≡ false
below at n k h = grind (arith, nat_tests)

within : (at n k : ℕ) → at ≤ k → k < at + n → (nat_le at k && nat_lt k (at + n)) ≡ true
within at n k h j = grind (arith, nat_tests)

-- with a part behind that stays
pub over_left : (A : Type 0) (f : ℕ → A) (at n : ℕ) (xs ys zs : List A) → at + n ≤ length xs →
    Over A all_of f at n xs ys → Over A all_of f at n (xs ++ zs) (ys ++ zs)
over_left A f at n xs ys zs fits h =
    record {
      size = length-append ys zs ∙ ap (λ m. m + length zs) h.size ∙ sym (length-append xs zs);
      each = λ k. go k (nat_lt k (length xs)) refl;
    }
  where
    go : (k : ℕ) (q : Bool) → nat_lt k (length xs) ≡ q →
        slice_get (ys ++ zs) k
        ≡ (if nat_le at k && nat_lt k (at + n) then Some (f (k - at)) else slice_get (xs ++ zs) k)
    go k true e =
        let lt = ltb-true k (length xs) e in
        let size = h.size in
        get_left ys zs k (omega arith) ∙ h.each k
        ∙ ap (λ o. if nat_le at k && nat_lt k (at + n) then Some (f (k - at)) else o) (sym (get_left xs zs k lt))
    go k false e =
        let ge = ltb-false k (length xs) e in
        let size = h.size in
        get_right ys zs k (omega arith) ∙ ap (λ m. slice_get zs (k - m)) size ∙ sym (get_right xs zs k ge)
        ∙ ap (λ q. if q then Some (f (k - at)) else slice_get (xs ++ zs) k) (sym (outside at n k (omega arith)))

-- between parts that stay
pub over_middle : (A : Type 0) (f : ℕ → A) (at n : ℕ) (before xs ys behind : List A) → length before ≡ at →
    length xs ≡ n → length ys ≡ n → ((k : ℕ) → k < n → slice_get ys k ≡ Some (f k)) →
    Over A all_of f at n (before ++ (xs ++ behind)) (before ++ (ys ++ behind))
over_middle A f at n before xs ys behind front old new is =
    record {
      size = simp length-append (omega arith);
      each = λ k. go k (nat_lt k at) refl (nat_lt k (at + n)) refl;
    }
  where
    go : (k : ℕ) (p : Bool) → nat_lt k at ≡ p → (q : Bool) → nat_lt k (at + n) ≡ q →
        slice_get (before ++ (ys ++ behind)) k
        ≡ (if nat_le at k && nat_lt k (at + n) then Some (f (k - at)) else slice_get (before ++ (xs ++ behind)) k)
    go k true d q e =
        let lt = ltb-true k at d in
        get_left before (ys ++ behind) k (omega arith) ∙ sym (get_left before (xs ++ behind) k (omega arith))
        ∙ ap (λ q. if q then Some (f (k - at)) else slice_get (before ++ (xs ++ behind)) k) (sym (below at n k lt))
    go k false d true e =
        let ge = ltb-false k at d in
        let lt = ltb-true k (at + n) e in
        get_right before (ys ++ behind) k (omega arith) ∙ ap (λ m. slice_get (ys ++ behind) (k - m)) front
        ∙ get_left ys behind (k - at) (omega arith) ∙ is (k - at) (omega arith)
        ∙ ap (λ q. if q then Some (f (k - at)) else slice_get (before ++ (xs ++ behind)) k) (sym (within at n k ge lt))
    go k false d false e =
        let ge = ltb-false k at d in
        let far = ltb-false k (at + n) e in
        get_right before (ys ++ behind) k (omega arith) ∙ get_right ys behind (k - length before) (omega arith)
        ∙ ap (λ m. slice_get behind (k - length before - m)) (new ∙ sym old)
        ∙ sym (get_right before (xs ++ behind) k (omega arith) ∙ get_right xs behind (k - length before) (omega arith))
        ∙ ap (λ q. if q then Some (f (k - at)) else slice_get (before ++ (xs ++ behind)) k) (sym (outside at n k far))
