-- Rows of acts, and what is met, item by item.
use Rattle.std.proofs.Common.{◌≡◌, ℕ, zero, suc, ◌+◌, ◌≤◌, min, List, [], ◌∷◌, ◌++◌, length, take, drop, refl, sym, ap, ◌∙◌, arith, map, add-one, Some}
use Rattle.std.specs.Prelude.{slice_get, slice_set}
use Rattle.base.specs.declared.item.MapItem.{MapItem}
use Rattle.base.specs.Actions.{Met}
use Rattle.base.specs.Current.{Current}
use Rattle.mapwalk.specs.declared.rows.Acts.{Acts}
use Rattle.mapwalk.specs.declared.seen.Seen.{Seen}
use Rattle.mapwalk.specs.Acts.{joined}
use Rattle.mapwalk.specs.Seen.{seen_all, seen_at}
use Rattle.mapwalk.specs.Sides.{after_acts}

pub seen_append : (xs ys : List Met) (s : Seen) → seen_all (xs ++ ys) s ≡ seen_all ys (seen_all xs s)
seen_append [] ys s = refl
seen_append (m ∷ xs) ys s = seen_append xs ys (seen_at m.item m.blocks s)

-- past the end of either list nothing is left to do
pub acts_end : (maps : List MapItem) (row : List Acts) (i : ℕ) (k : Current) → min (length maps) (length row) ≤ i →
    after_acts (drop i maps) (drop i row) k ≡ k
acts_end [] row zero k h = refl
acts_end [] row (suc i) k h = refl
acts_end (m ∷ maps) [] zero k h = refl
acts_end (m ∷ maps) [] (suc i) k h = no_row (drop i maps)
  where
    no_row : (ms : List MapItem) → after_acts ms [] k ≡ k
    no_row [] = refl
    no_row (m ∷ ms) = refl
acts_end (m ∷ maps) (a ∷ row) zero k h = absurd (omega arith)
acts_end (m ∷ maps) (a ∷ row) (suc i) k h = acts_end maps row i k (omega arith)

no_exits : (xs : List Acts) (i : ℕ) → take i xs ++ joined (drop i xs) [] ≡ xs
no_exits [] zero = refl
no_exits [] (suc i) = refl
no_exits (x ∷ xs) zero = refl
no_exits (x ∷ xs) (suc i) = ap (λ rest. x ∷ rest) (no_exits xs i)

pub joined_end : (xs ys : List Acts) (i : ℕ) → min (length xs) (length ys) ≤ i → take i xs ++ joined (drop i xs) (drop i ys) ≡ xs
joined_end [] ys zero h = refl
joined_end [] ys (suc i) h = refl
joined_end (x ∷ xs) [] zero h = refl
joined_end (x ∷ xs) [] (suc i) h = ap (λ rest. x ∷ rest) (no_exits xs i)
joined_end (x ∷ xs) (y ∷ ys) zero h = absurd (omega arith)
joined_end (x ∷ xs) (y ∷ ys) (suc i) h = ap (λ rest. x ∷ rest) (joined_end xs ys i (omega arith))

-- one more item of a list is changed
set_mapped_suc : {X : Type 0} (f : X → X) (xs : List X) (i : ℕ) (x v : X) → slice_get xs i ≡ Some x → v ≡ f x →
    slice_set (map f (take i xs) ++ drop i xs) i v ≡ map f (take (suc i) xs) ++ drop (suc i) xs
set_mapped_suc f [] i x v e w = absurd cc
set_mapped_suc f (y ∷ xs) zero x v e w = let s : y ≡ x = cc in ap (λ z. z ∷ xs) (w ∙ ap f (sym s))
set_mapped_suc f (y ∷ xs) (suc i) x v e w = ap (λ zs. f y ∷ zs) (set_mapped_suc f xs i x v e w)

pub set_mapped : {X : Type 0} (f : X → X) (xs : List X) (i : ℕ) (x v : X) → slice_get xs i ≡ Some x → v ≡ f x →
    slice_set (map f (take i xs) ++ drop i xs) i v ≡ map f (take (i + 1) xs) ++ drop (i + 1) xs
set_mapped f xs i x v e w =
    set_mapped_suc f xs i x v e w ∙ ap (λ k. map f (take k xs) ++ drop k xs) (sym (add-one i))

-- the item there, before it was changed
pub get_mapped : {X : Type 0} (f : X → X) (xs : List X) (i : ℕ) → slice_get (map f (take i xs) ++ drop i xs) i ≡ slice_get xs i
get_mapped f [] zero = refl
get_mapped f [] (suc i) = refl
get_mapped f (y ∷ xs) zero = refl
get_mapped f (y ∷ xs) (suc i) = get_mapped f xs i
