-- What holds of each name that can be used.
use Rattle.std.proofs.Common.{◌≡◌, ℕ, Bool, true, false, cond, List, [], ◌∷◌, Some, None, refl, subst}
use Rattle.std.specs.Str.{bytes_eq}
use Rattle.std.proofs.lemmas.Slice.Eq.{bytes_eq-Decides}
use Rattle.c_expressions.specs.declared.scope.Meaning.{Meaning}
use Rattle.c_expressions.specs.Means.{Names, meaning_of}

abbrev pub Entry : Type 0
Entry = List ℕ × Meaning

abbrev pub Each : (Entry → Type 0) → Names → Type 0
Each P [] = Unit {0}
Each P (n ∷ ns) = P n × Each P ns

pub each_more : (P Q : Entry → Type 0) (ns : Names) → ((n : Entry) → P n → Q n) → Each P ns → Each Q ns
each_more P Q [] f h = tt
each_more P Q (n ∷ ns) f h = (f n h.0, each_more P Q ns f h.1)

pub each_both : (P Q R : Entry → Type 0) (ns : Names) → ((n : Entry) → P n → Q n → R n) → Each P ns → Each Q ns →
    Each R ns
each_both P Q R [] f h k = tt
each_both P Q R (n ∷ ns) f h k = (f n h.0 k.0, each_both P Q R ns f h.1 k.1)

-- the one that a name means
pub each_at : (P : Entry → Type 0) (ns : Names) (x : List ℕ) (m : Meaning) → Each P ns → meaning_of ns x ≡ Some m →
    P (x, m)
each_at P [] x m h e = absurd cc
each_at P (n ∷ ns) x m h e =
    step (bytes_eq n.0 x) (bytes_eq-Decides n.0 x).0 e (each_at P ns x m h.1)
  where
    here : n.0 ≡ x → n.1 ≡ m → P (x, m)
    here s k = subst (λ (y : List ℕ). P (y, m)) s (subst (λ (k : Meaning). P (n.0, k)) k h.0)

    step : (t : Bool) → (t ≡ true → n.0 ≡ x) → cond t (Some n.1) (meaning_of ns x) ≡ Some m →
        (meaning_of ns x ≡ Some m → P (x, m)) → P (x, m)
    step true s e rest = let same : n.1 ≡ m = cc in here (s refl) same
    step false s e rest = rest e

-- a name that means nothing is none of them
pub each_other : (ns : Names) (x : List ℕ) → meaning_of ns x ≡ None → Each (λ n. bytes_eq n.0 x ≡ false) ns
each_other [] x e = tt
each_other (n ∷ ns) x e = step (bytes_eq n.0 x) refl e (each_other ns x)
  where
    step : (t : Bool) → bytes_eq n.0 x ≡ t → cond t (Some n.1) (meaning_of ns x) ≡ None →
        (meaning_of ns x ≡ None → Each (λ n. bytes_eq n.0 x ≡ false) ns) → Each (λ n. bytes_eq n.0 x ≡ false) (n ∷ ns)
    step true s e rest = absurd cc
    step false s e rest = (s, rest e)
