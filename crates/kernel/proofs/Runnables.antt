-- A region without a fault of range has a meaning on rows of numbers that have what it needs.
use Rattle.shared_row.specs.Rows.{numbers_in}
use Rattle.std.proofs.Common.{◌≡◌, ℕ, ◌<◌, ◌^◌, Bool, true, false, List, [], ◌∷◌, Option, Some, None, refl, subst, arith}
use Rattle.std.specs.Prelude.{◌-◌, nat_le, slice_get, slice_index, zero, suc, IsSome}
use Rattle.base.specs.Meaning.{Run, run_region}
use Rattle.regions.specs.Footprints.{BoundedView}
use Rattle.regions.specs.Certain.{RegionRuns, RunsToEnd}
use Rattle.kernel.specs.declared.frames.Row.{Row}
use Rattle.base.specs.Rows.{at_index}
use Rattle.kernel.specs.Rows.{cells_of}
use Rattle.kernel.specs.Runnable.{RunsOn, AreNumbers, HaveNumbers}

behind : (x : ℕ) (xs : List ℕ) → AreNumbers (x ∷ xs) → AreNumbers xs
behind x xs h = λ k d l. h (suc k) d (omega (arith, l))

number_at : (xs : List ℕ) (k n : ℕ) → AreNumbers xs → slice_get xs k ≡ Some n → n < 2 ^ 64
number_at [] k n h e = absurd cc
number_at (x ∷ xs) zero n h e = let same : x ≡ n = cc in subst (λ (m : ℕ). m < 2 ^ 64) same (h 0 0 (omega arith))
number_at (x ∷ xs) (suc k) n h e = number_at xs k n (behind x xs h) e

number_in : (first : ℕ) (xs : List ℕ) (i n : ℕ) → AreNumbers xs → at_index first xs i ≡ Some n → n < 2 ^ 64
number_in first xs i n h e = go (nat_le first i) e
  where
    go : (b : Bool) → elim b [ true ↦ slice_get xs (i - first) | false ↦ None ] ≡ Some n → n < 2 ^ 64
    go true e = number_at xs (i - first) n h e
    go false e = absurd cc

row_number : (rows : List Row) (a i n : ℕ) → HaveNumbers rows →
    elim (slice_get rows a) [ None ↦ None | Some r ↦ at_index r.first (numbers_in r.cells) i ] ≡ Some n → n < 2 ^ 64
row_number [] a i n h e = absurd cc
row_number (r ∷ rs) zero i n h e = number_in r.first (numbers_in r.cells) i n h.0 e
row_number (r ∷ rs) (suc a) i n h e = row_number rs a i n h.1 e

pub bounded : (rows : List Row) → HaveNumbers rows → BoundedView (cells_of rows)
bounded rows h c n e = row_number rows c.array.0 c.index n h e

pub scalar : (xs : List ℕ) (k : ℕ) → AreNumbers xs → slice_index xs k < 2 ^ 64
scalar [] k h = omega arith
scalar (x ∷ xs) zero h = h 0 0 (omega arith)
scalar (x ∷ xs) (suc k) h = scalar xs k (behind x xs h)

some : (o : Option Run) (r : Run) → o ≡ Some r → IsSome o
some (Some x) r e = refl
some None r e = absurd cc

pub runs_on : RegionRuns → (loops : List ℕ) (rows : List Row) (scalars input : List ℕ) → HaveNumbers rows → AreNumbers loops →
    AreNumbers scalars → AreNumbers input → RunsOn loops (cells_of rows) (slice_index scalars) input
runs_on law loops rows scalars input hr hl hs hi r lengths fine has =
    let end : RunsToEnd r loops (cells_of rows) (slice_index scalars) input =
    law r loops lengths (cells_of rows) (slice_index scalars) input hl (bounded rows hr) (λ x. scalar scalars x hs) hi fine has in
    some (run_region r loops (cells_of rows) (slice_index scalars) input) end.run end.is_run
