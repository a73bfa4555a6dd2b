-- Texts that are written piece by piece.
use Rattle.std.proofs.Common.{◌≡◌, ℕ, ◌+◌, ◌<◌, ◌≤◌, List, [], ◌∷◌, ◌++◌, length, take, get_or, flat_map, Option, sym, ap, ◌∙◌, subst, take_all}
use Rattle.std.proofs.lemmas.List.{take_more, flat_map_more}
use Rattle.std.specs.Io.KnownBytes.{Appends}
use Rattle.std.proofs.KnownBytes.{Appends-trans}

module _ {X : Type 0} (f : X → List ℕ) where
  -- one piece more was written
  pub wrote_next : (a b c : Option (List ℕ)) (xs : List X) (k : ℕ) (x : X) → k < length xs → x ≡ get_or xs k x →
      Appends a b (flat_map f (take k xs)) → Appends b c (f x) → Appends a c (flat_map f (take (k + 1) xs))
  wrote_next a b c xs k x h is before here =
      subst (λ (bs : List ℕ). Appends a c bs)
      (sym (ap (λ ys. flat_map f ys) (take_more xs k x h) ∙ ap (λ y. flat_map f (take k xs ++ y ∷ [])) (sym is)
      ∙ sym (flat_map_more f [] (take k xs) x)))
      (Appends-trans a b c (flat_map f (take k xs)) (f x) before here)

  -- all were written
  pub wrote_all : (a b : Option (List ℕ)) (xs : List X) (k : ℕ) → length xs ≤ k → Appends a b (flat_map f (take k xs)) →
      Appends a b (flat_map f xs)
  wrote_all a b xs k all wrote = subst (λ (ys : List X). Appends a b (flat_map f ys)) (take_all k xs all) wrote
