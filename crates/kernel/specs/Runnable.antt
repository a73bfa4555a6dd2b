-- On which cells a region has a meaning.
use Rattle.shared_row.specs.Rows.{numbers_in}
use Rattle.std.specs.Prelude.{ℕ, ◌≡◌, ◌<◌, ◌^◌, All, List, [], ◌∷◌, Some, IsSome}
use Rattle.base.specs.declared.tree.Region.{Region}
use Rattle.base.specs.Memory.{View, Scalars}
use Rattle.base.specs.Meaning.{run_region}
use Rattle.base.specs.Footprint.{touches_of}
use Rattle.base.specs.Accepted.{region_faults}
use Rattle.regions.specs.Certain.{HasFootprint}
use Rattle.kernel.specs.declared.frames.Row.{Row}

-- each region without a fault of range has a meaning where the cells are there of which it exposes a read or that it
-- may write
abbrev pub RunsOn : List ℕ → View → Scalars → List ℕ → Type 0
RunsOn loops view scalars input = (r : Region) (lengths : List ℕ) → region_faults lengths loops (Some r) ≡ [] →
    HasFootprint lengths (touches_of r loops) view → IsSome (run_region r loops view scalars input)

-- numbers of 64 bits
abbrev pub AreNumbers : List ℕ → Type 0
AreNumbers xs = All (λ n. n < 2 ^ 64) xs

abbrev pub HaveNumbers : List Row → Type 0
HaveNumbers [] = Unit {0}
HaveNumbers (r ∷ rs) = AreNumbers (numbers_in r.cells) × HaveNumbers rs
