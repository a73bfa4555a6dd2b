-- Line feeds, one after another.
use Rattle.std.proofs.Common.{◌≡◌, ℕ, zero, suc, ◌+◌, List, [], ◌∷◌, ◌++◌, length, refl, ap, ◌∙◌, arith}
use Rattle.c_lines.specs.Spliced.{feeds}

pub more_feeds : (k : ℕ) → feeds k ++ 10 ∷ [] ≡ feeds (suc k)
unfolding feeds
more_feeds zero = refl
more_feeds (suc k) = ap (λ (l : List ℕ). 10 ∷ l) (more_feeds k)

pub feeds_len : (k : ℕ) → length (feeds k) ≡ k
unfolding feeds
feeds_len zero = refl
feeds_len (suc k) = ap (λ (n : ℕ). suc n) (feeds_len k)

pub one_more : (k : ℕ) → feeds k ++ 10 ∷ [] ≡ feeds (k + 1)
one_more k = more_feeds k ∙ ap feeds (omega arith)
