-- What footprints of items tell where one more comes.
use Rattle.std.proofs.Common.{◌≡◌, ℕ, zero, suc, ◌<◌, ◌≤◌, List, [], ◌∷◌, ◌++◌, map, length, length-append, get_or, refl, sym, ap, ap₂, ◌∙◌, ⊎_elim, subst, arith}
use Rattle.std.specs.Prelude.{slice_index}
use Rattle.std.proofs.lemmas.Bool.{cases_lt}
use Rattle.std.proofs.lemmas.List.{get_or_append_left, map-append}
use Rattle.mapwalk.specs.Numbered.{AllUnder}

module _ {X : Type 0} (d : X) where
  tail_under : (n k : ℕ) (ks : List ℕ) → AllUnder n (k ∷ ks) → AllUnder n ks
  tail_under n k ks h i lt = h (suc i) (omega (arith, lt))

  -- what stands at places of a list also stands there when it has grown
  pub grown : (xs ys : List X) (ks : List ℕ) → AllUnder (length xs) ks →
      map (λ k. get_or (xs ++ ys) k d) ks ≡ map (λ k. get_or xs k d) ks
  grown xs ys [] h = refl
  grown xs ys (k ∷ ks) h =
      ap₂ (λ (x : X) (zs : List X). x ∷ zs)
      (get_or_append_left xs ys d k (h 0 (omega arith))) (grown xs ys ks (tail_under (length xs) k ks h))

  -- at the place behind the end of a list stands what it has grown by
  pub at_seam : (xs : List X) (x : X) → get_or (xs ++ x ∷ []) (length xs) d ≡ x
  at_seam [] x = refl
  at_seam (y ∷ xs) x = at_seam xs x

  pub one_told : (xs : List X) (ks : List ℕ) (k : ℕ) →
      map (λ j. get_or xs j d) (ks ++ k ∷ []) ≡ map (λ j. get_or xs j d) ks ++ get_or xs k d ∷ []
  one_told xs ks k = map-append (λ j. get_or xs j d) ks (k ∷ [])

  -- what stands at a place of those told
  pub told_at : (xs : List X) (ks : List ℕ) (i : ℕ) → i < length ks →
      get_or (map (λ j. get_or xs j d) ks) i d ≡ get_or xs (slice_index ks i) d
  told_at xs [] i lt = absurd (omega (arith, lt))
  told_at xs (k ∷ ks) zero lt = refl
  told_at xs (k ∷ ks) (suc i) lt = told_at xs ks i (omega (arith, lt))

pub one_under : (n : ℕ) (ks : List ℕ) (k : ℕ) → AllUnder n ks → k < n → AllUnder n (ks ++ k ∷ [])
one_under n ks k h lt i inside =
    ⊎_elim (λ (old : i < length ks). subst (λ x. x < n) (sym (get_or_append_left ks (k ∷ []) 0 i old)) (h i old))
    (λ (new : length ks ≤ i).
    let here : i ≡ length ks = let many = length-append ks (k ∷ []) in omega (arith, many, inside, new) in
    subst (λ x. x < n) (sym (ap (λ j. slice_index (ks ++ k ∷ []) j) here ∙ at_seam 0 ks k)) lt)
    (cases_lt i (length ks))

pub more_under : (n m : ℕ) (ks : List ℕ) → AllUnder n ks → n ≤ m → AllUnder m ks
more_under n m ks h le i inside = let lt = h i inside in omega (arith, lt, le)

-- what grows by one of its own
pub own_told : {X : Type 0} (d : X) (xs ys : List X) (ks : List ℕ) (n : ℕ) (x : X) → ys ≡ xs ++ x ∷ [] →
    n ≡ length xs → AllUnder (length xs) ks →
    map (λ k. get_or ys k d) ks ++ get_or ys n d ∷ [] ≡ map (λ k. get_or xs k d) ks ++ x ∷ []
own_told {X} d xs ys ks n x is place under =
    ap (λ (zs : List X). map (λ k. get_or zs k d) ks ++ get_or zs n d ∷ []) is
    ∙ ap₂ (λ (us : List X) (v : X). us ++ v ∷ []) (grown d xs (x ∷ []) ks under)
    (ap (λ k. get_or (xs ++ x ∷ []) k d) place ∙ at_seam d xs x)
