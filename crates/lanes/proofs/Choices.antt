-- A choice in some turns: the first branch in those in which the condition's number is not 0, then the second in the
-- others.
use Rattle.std.proofs.Common.{◌≡◌, ℕ, zero, suc, Bool, true, false, Option, Some, None, refl, sym, ap, ap₂, ◌∙◌, if◌then◌else◌, eqb-true}
use Rattle.std.specs.Prelude.{not, ◌&&◌, unwrap_or, IsSome}
use Rattle.std.proofs.lemmas.Bool.{and_parts, false≢true}
use Rattle.base.specs.Value.{is_zero}
use Rattle.base.specs.Meaning.{Run, choose}
use Rattle.lanes.specs.Apart.{Places, HavePlaces, RunAlone}

-- fewer turns have their places too
pub fewer_places : (pl : Places) (inside some : ℕ → Bool) → ((v : ℕ) → some v ≡ true → inside v ≡ true) →
    HavePlaces inside pl → HavePlaces some pl
fewer_places pl inside some h places =
    record { back = λ v i. places.back v (h v i); forth = λ i k. places.forth i (h (pl.turn_of i) k) }

pub first_of : (o : Option ℕ) (f g : Run → Option Run) (t u : Run) → choose o f g t ≡ Some u →
    not (is_zero (unwrap_or o 0)) ≡ true → f t ≡ Some u
first_of None f g t u h k = absurd cc
first_of (Some zero) f g t u h k = absurd (false≢true k)
first_of (Some (suc n)) f g t u h k = h

pub second_of : (o : Option ℕ) (f g : Run → Option Run) (t u : Run) → choose o f g t ≡ Some u →
    is_zero (unwrap_or o 0) ≡ true → g t ≡ Some u
second_of None f g t u h k = absurd cc
second_of (Some zero) f g t u h k = h
second_of (Some (suc n)) f g t u h k = let e : suc n ≡ 0 = eqb-true (suc n) 0 k in absurd cc

pub has_condition : (o : Option ℕ) (f g : Run → Option Run) (t u : Run) → choose o f g t ≡ Some u → IsSome o
has_condition None f g t u h = absurd cc
has_condition (Some n) f g t u h = refl

module _ (inside : ℕ → Bool) (number : ℕ → ℕ) (o : ℕ → Option ℕ) (f g : ℕ → Run → Option Run) (lane next : ℕ → Run)
    (same : (v : ℕ) → inside v ≡ true → number v ≡ unwrap_or (o v) 0)
    (there : (v : ℕ) → inside v ≡ true → choose (o v) (f v) (g v) (lane v) ≡ Some (next v))
    (elsewhere : (v : ℕ) → inside v ≡ false → next v ≡ lane v) where
  abbrev some : ℕ → Bool
  some v = inside v && not (is_zero (number v))

  abbrev others : ℕ → Bool
  others v = inside v && is_zero (number v)

  -- where the turns stand between the branches
  abbrev pub between : ℕ → Run
  between v = if some v then next v else lane v

  pub first_branch : RunAlone some f lane between
  first_branch =
      record {
        there =
            λ v i. first_of (o v) (f v) (g v) (lane v) (next v) (there v (parts v i).0)
            (ap (λ n. not (is_zero n)) (sym (same v (parts v i).0)) ∙ (parts v i).1)
            ∙ ap Some (sym (ap (λ q. if q then next v else lane v) i));
        elsewhere = λ v i. ap (λ q. if q then next v else lane v) i;
      }
    where
      parts : (v : ℕ) → some v ≡ true → (inside v ≡ true) × (not (is_zero (number v)) ≡ true)
      parts v i = and_parts (inside v) (not (is_zero (number v))) i

  pub second_branch : RunAlone others g between next
  second_branch =
      record {
        there =
            λ v i. ap (g v) (before v i)
            ∙ second_of (o v) (f v) (g v) (lane v) (next v) (there v (parts v i).0)
            (ap is_zero (sym (same v (parts v i).0)) ∙ (parts v i).1);
        elsewhere = λ v i. go v (inside v) (is_zero (number v)) refl refl i;
      }
    where
      parts : (v : ℕ) → others v ≡ true → (inside v ≡ true) × (is_zero (number v) ≡ true)
      parts v i = and_parts (inside v) (is_zero (number v)) i

      before : (v : ℕ) → others v ≡ true → between v ≡ lane v
      before v i =
          ap₂ (λ p q. if p && not q then next v else lane v) (parts v i).0 (parts v i).1

      go : (v : ℕ) (p q : Bool) → inside v ≡ p → is_zero (number v) ≡ q → (p && q) ≡ false → next v ≡ between v
      go v true true h k i = absurd (false≢true (sym i))
      go v true false h k i = sym (ap₂ (λ a b. if a && not b then next v else lane v) h k)
      go v false q h k i = elsewhere v h ∙ sym (ap (λ a. if a && not (is_zero (number v)) then next v else lane v) h)
