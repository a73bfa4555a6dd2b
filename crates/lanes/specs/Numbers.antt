-- Rows of numbers, one for each turn of a block.
use Rattle.std.specs.Prelude.{ℕ, ◌≡◌, ◌<◌, ◌^◌, ◌==◌, nat_lt, not, ◌&&◌, ◌||◌, List, length, slice_index, Option, Some, None, if◌then◌else◌}
use Rattle.std.specs.Int.{w64, trailing_zeros}
use Rattle.base.specs.Value.{flag, is_zero}

-- each number of a row became what f makes of its place and of it
pub record Became (f : ℕ → ℕ → ℕ) (xs ys : List ℕ) : Type 0 where
  pub size : length ys ≡ length xs
  pub each : (k : ℕ) → k < length xs → slice_index ys k ≡ f k (slice_index xs k)

-- `&&` and `||` of two numbers that are both known
abbrev pub both_hold : ℕ → ℕ → ℕ
both_hold a b = flag (not (is_zero a) && not (is_zero b))

abbrev pub either_holds : ℕ → ℕ → ℕ
either_holds a b = flag (not (is_zero a) || not (is_zero b))

-- the number of which 2 is raised to the power to give a number of 64 bits, if it is such a power
abbrev pub log_at : ℕ → ℕ → Option ℕ
log_at n k = if nat_lt k 64 && (n == 2 ^ k) then Some k else None

abbrev pub log_of : ℕ → Option ℕ
log_of n = log_at n (trailing_zeros w64 n)
