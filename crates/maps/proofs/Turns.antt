-- What is told by each in turn, up to one of them.
use Rattle.std.proofs.Common.{◌≡◌, ℕ, ◌+◌, ◌<◌, ◌≤◌, List, [], ◌∷◌, ◌++◌, length, take, get_or, Option, refl, sym, ap, ◌∙◌, subst, append_assoc, append-nil, take_all}
use Rattle.std.proofs.lemmas.List.{take_more}
use Rattle.std.specs.Io.KnownBytes.{Appends}
use Rattle.std.proofs.KnownBytes.{Appends-trans}
use Rattle.maps.specs.Maps.{told, after}

module _ {X S : Type 0} (tell : X → S → List ℕ) (next : X → S → S) where
  told_more : (xs : List X) (x : X) (s : S) →
      told tell next (xs ++ x ∷ []) s ≡ told tell next xs s ++ tell x (after next xs s)
  told_more [] x s = append-nil (tell x s)
  told_more (y ∷ xs) x s =
      ap (λ bs. tell y s ++ bs) (told_more xs x (next y s))
      ∙ sym (append_assoc (tell y s) (told tell next xs (next y s)) (tell x (after next xs (next y s))))

  after_more : (xs : List X) (x : X) (s : S) → after next (xs ++ x ∷ []) s ≡ next x (after next xs s)
  after_more [] x s = refl
  after_more (y ∷ xs) x s = after_more xs x (next y s)

  -- one more has told
  pub told_next : (a b c : Option (List ℕ)) (xs : List X) (k : ℕ) (d : X) (s t : S) → k < length xs →
      Appends a b (told tell next (take k xs) s) → t ≡ after next (take k xs) s →
      Appends b c (tell (get_or xs k d) t) → Appends a c (told tell next (take (k + 1) xs) s)
  told_next a b c xs k d s t h before now here =
      subst (λ (ys : List ℕ). Appends a c ys)
      (ap (λ u. told tell next (take k xs) s ++ tell (get_or xs k d) u) now
      ∙ sym (told_more (take k xs) (get_or xs k d) s)
      ∙ ap (λ ys. told tell next ys s) (sym (take_more xs k d h)))
      (Appends-trans a b c (told tell next (take k xs) s) (tell (get_or xs k d) t) before here)

  -- and has left what the next begins with
  pub after_next : (xs : List X) (k : ℕ) (d : X) (s t u : S) → k < length xs → t ≡ after next (take k xs) s →
      u ≡ next (get_or xs k d) t → u ≡ after next (take (k + 1) xs) s
  after_next xs k d s t u h now here =
      here ∙ ap (next (get_or xs k d)) now ∙ sym (after_more (take k xs) (get_or xs k d) s)
      ∙ ap (λ ys. after next ys s) (sym (take_more xs k d h))

  -- all have told
  pub told_all : (a b : Option (List ℕ)) (xs : List X) (k : ℕ) (s : S) → length xs ≤ k →
      Appends a b (told tell next (take k xs) s) → Appends a b (told tell next xs s)
  told_all a b xs k s all wrote = subst (λ (ys : List X). Appends a b (told tell next ys s)) (take_all k xs all) wrote

  pub after_all : (xs : List X) (k : ℕ) (s t : S) → length xs ≤ k → t ≡ after next (take k xs) s → t ≡ after next xs s
  after_all xs k s t all now = now ∙ ap (λ ys. after next ys s) (take_all k xs all)
