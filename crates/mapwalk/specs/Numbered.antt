-- Numbers below a bound.
use Rattle.std.specs.Prelude.{ℕ, ◌<◌, List, length, slice_index}

-- each number is below n
abbrev pub AllUnder : ℕ → List ℕ → Type 0
AllUnder n ks = (i : ℕ) → i < length ks → slice_index ks i < n
