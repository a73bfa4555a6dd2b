-- The tables of all devices, where none has a block.
use Rattle.std.proofs.Common.{◌≡◌, ℕ, zero, suc, List, [], ◌∷◌, ◌++◌, map, Vec, refl, ap}
use Rattle.std.specs.declared.alloc.Global.{Global}
use mathlib.Core.Path.{fun_ext}
use Rattle.maps.specs.declared.blocks.Block.{Block as Kept}
use Rattle.maps.specs.Shown.{block_of, tables_in}

empty_at : (ts : List (Vec Kept Global)) (v : Vec Kept Global) → ((d : ℕ) → tables_in ts d ≡ []) → v.items ≡ [] →
    (d : ℕ) → tables_in (ts ++ v ∷ []) d ≡ []
empty_at [] v h is zero = ap (map block_of) is
empty_at [] v h is (suc d) = refl
empty_at (t ∷ ts) v h is zero = h zero
empty_at (t ∷ ts) v h is (suc d) = empty_at ts v (λ k. h (suc k)) is d

pub empty_more : (ts : List (Vec Kept Global)) (v : Vec Kept Global) → tables_in ts ≡ (λ d. []) → v.items ≡ [] →
    tables_in (ts ++ v ∷ []) ≡ (λ d. [])
empty_more ts v h is = fun_ext (empty_at ts v (λ d. ap (λ f. f d) h) is)
