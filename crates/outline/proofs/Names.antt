-- The scalars and arrays below one number more.
use Rattle.std.proofs.Common.{◌≡◌, ℕ, ◌+◌, Bool, cond, List, [], ◌∷◌, ◌++◌, map, sym, ◌∙◌, zero-add}
use Rattle.std.specs.List.{filter, range_with_len}
use Rattle.std.proofs.lemmas.List.FromFn.{filter_of_map_range_with_len_more}

-- one more of these was asked, and kept where it passed
pub kept_one : {X : Type 0} (p : X → Bool) (f : ℕ → X) (n : ℕ) (b : Bool) (old new : List X) → p (f n) ≡ b →
    old ≡ filter p (map f (range_with_len 0 n)) → new ≡ old ++ cond b (f n ∷ []) [] →
    new ≡ filter p (map f (range_with_len 0 (n + 1)))
kept_one p f n b old new asked old_is new_is =
    new_is
    ∙ (λ i. old_is i ++ cond (sym asked i) (f n ∷ []) [])
    ∙ sym (filter_of_map_range_with_len_more p f 0 n n (zero-add n))
