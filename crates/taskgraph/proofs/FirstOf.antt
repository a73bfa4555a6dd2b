-- The first item of a range of which a question is answered yes.
use Rattle.std.proofs.Common.{◌≡◌, ◌⊎◌, inl, inr, ℕ, zero, suc, ◌+◌, ◌<◌, ◌≤◌, Bool, true, false, ◌∷◌, Some, None, refl, sym, ap, ◌∙◌, cond, arith}
use Rattle.std.specs.Prelude.{slice_get}
use Rattle.std.proofs.lemmas.Bool.{cases_eq}
use Rattle.taskgraph.specs.Marks.{those_from}

-- the first one, and that none is before it
pub record IsFirstOf (p : ℕ → Bool) (s n i : ℕ) : Type 0 where
  pub from : s ≤ i
  pub inside : i < s + n
  pub yes : p i ≡ true
  pub below : (j : ℕ) → s ≤ j → j < i → p j ≡ false

pub first_of : (p : ℕ → Bool) (s n i : ℕ) → slice_get (those_from p s n) 0 ≡ Some i → IsFirstOf p s n i
first_of p s zero i e = absurd (cc e)
first_of p s (suc n) i e = go (p s) refl e (λ h. first_of p (s + 1) n i h)
  where
    go : (x : Bool) → p s ≡ x →
        slice_get (cond x (s ∷ those_from p (s + 1) n) (those_from p (s + 1) n)) 0 ≡ Some i →
        (slice_get (those_from p (s + 1) n) 0 ≡ Some i → IsFirstOf p (s + 1) n i) → IsFirstOf p s (suc n) i
    go true h e later =
        let is : s ≡ i = cc e in
        record {
          from = omega arith;
          inside = omega arith;
          yes = ap p (sym is) ∙ h;
          below = λ j le lt. absurd (omega arith);
        }
    go false h e later =
        let f = later e in
        record {
          from = omega (arith, f.from);
          inside = omega (arith, f.inside);
          yes = f.yes;
          below = λ j le lt. at j le lt f (cases_eq j s);
        }
      where
        at : (j : ℕ) → s ≤ j → j < i → IsFirstOf p (s + 1) n i → (j ≡ s) ⊎ (j ≡ s → ⊥) → p j ≡ false
        at j le lt f (inl is) = ap p is ∙ h
        at j le lt f (inr ne) = f.below j (omega (arith, le, ne)) lt

-- where there is none, each answer is no
pub none_of : (p : ℕ → Bool) (s n : ℕ) → slice_get (those_from p s n) 0 ≡ None → (i : ℕ) → s ≤ i → i < s + n → p i ≡ false
none_of p s zero e i le lt = absurd (omega arith)
none_of p s (suc n) e i le lt = go (p s) refl e (cases_eq i s) (λ h ne. none_of p (s + 1) n h i (omega (arith, le, ne)) (omega arith))
  where
    go : (x : Bool) → p s ≡ x →
        slice_get (cond x (s ∷ those_from p (s + 1) n) (those_from p (s + 1) n)) 0 ≡ None →
        (i ≡ s) ⊎ (i ≡ s → ⊥) → (slice_get (those_from p (s + 1) n) 0 ≡ None → (i ≡ s → ⊥) → p i ≡ false) → p i ≡ false
    go true h e c later = absurd (cc e)
    go false h e (inl is) later = ap p is ∙ h
    go false h e (inr ne) later = later e ne
