-- The last number of a list.
use Rattle.std.proofs.Common.{◌≡◌, ℕ, zero, suc, ◌-◌, List, [], ◌∷◌, ◌++◌, length, Option, refl, ap, ◌∙◌, arith, length-append, take_at}
use Rattle.std.specs.Prelude.{take, slice_index}
use Rattle.std.proofs.lemmas.List.{get_or_past}
use Rattle.kernel.specs.Machine.{last_of, front_of, with_last}

pub length_more : (xs : List ℕ) (v : ℕ) → length (xs ++ v ∷ []) - 1 ≡ length xs
length_more xs v = omega (arith, length-append xs (v ∷ []))

pub at_seam : (xs : List ℕ) (v : ℕ) → slice_index (xs ++ v ∷ []) (length xs) ≡ v
at_seam [] v = refl
at_seam (x ∷ xs) v = at_seam xs v

pub last_more : (xs : List ℕ) (v : ℕ) → last_of (xs ++ v ∷ []) ≡ v
last_more xs v = ap (λ n. slice_index (xs ++ v ∷ []) n) (length_more xs v) ∙ at_seam xs v

pub front_more : (xs : List ℕ) (v : ℕ) → front_of (xs ++ v ∷ []) ≡ xs
front_more xs v = ap (λ n. take n (xs ++ v ∷ [])) (length_more xs v) ∙ take_at xs (v ∷ []) (length xs) refl

filled : {A : Type 0} (ys xs : List ℕ) (v : ℕ) (f : ℕ → List ℕ → Option A) → ys ≡ xs ++ v ∷ [] →
    with_last (xs ++ v ∷ []) f ≡ f (last_of (xs ++ v ∷ [])) (front_of (xs ++ v ∷ []))
filled {A} ys [] v f e = refl
filled {A} ys (x ∷ xs) v f e = refl

pub with_more : {A : Type 0} (xs : List ℕ) (v : ℕ) (f : ℕ → List ℕ → Option A) → with_last (xs ++ v ∷ []) f ≡ f v xs
with_more {A} xs v f =
    filled (xs ++ v ∷ []) xs v f refl ∙ (λ i. f (last_more xs v i) (front_more xs v i))

-- the other numbers of a longer list
pub before_last : (xs : List ℕ) (v k : ℕ) → (k ≡ length xs → ⊥) → slice_index (xs ++ v ∷ []) k ≡ slice_index xs k
before_last [] v zero other = absurd (other refl)
before_last [] v (suc k) other = refl
before_last (x ∷ xs) v zero other = refl
before_last (x ∷ xs) v (suc k) other = before_last xs v k (λ e. other (ap suc e))

pub none_behind : (xs : List ℕ) → slice_index xs (length xs) ≡ 0
none_behind xs = get_or_past xs (length xs) 0 (omega arith)
