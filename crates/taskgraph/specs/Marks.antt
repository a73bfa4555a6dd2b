-- Items below a fixed number, each marked or not.
use Rattle.std.specs.Prelude.{◌≡◌, ℕ, ◌+◌, ◌*◌, ◌<◌, ◌≤◌, Bool, true, false, List, Option, Some, None, filter, length, slice_index}
use Rattle.std.specs.List.{range_with_len, slice_index_or}

-- whether an item is marked; none past the last is
abbrev pub is_marked : List Bool → ℕ → Bool
is_marked marks i = slice_index_or marks i false

-- of the n items from one on, those of which the question is answered yes, ascending
abbrev pub those_from : (ℕ → Bool) → ℕ → ℕ → List ℕ
those_from p start n = filter p (range_with_len start n)

-- the marked items, ascending
abbrev pub all_marked : List Bool → List ℕ
all_marked marks = those_from (is_marked marks) 0 (length marks)

-- the least marked item from one on, if there is one
abbrev pub IsNext : List Bool → ℕ → Option ℕ → Type 0
IsNext marks from None = (j : ℕ) → from ≤ j → is_marked marks j ≡ false
IsNext marks from (Some i) =
    (from ≤ i) × (is_marked marks i ≡ true) × ((j : ℕ) → from ≤ j → j < i → is_marked marks j ≡ false)

-- how many items of each row of 256 are marked, and how many in all
pub record AreCounted (marks : List Bool) (counts : List ℕ) (len : ℕ) : Type 0 where
  pub enough : length marks ≤ 256 * length counts
  pub few : 256 * length counts < length marks + 256
  pub each : (r : ℕ) → r < length counts → slice_index counts r ≡ length (those_from (is_marked marks) (256 * r) 256)
  pub all : len ≡ length (all_marked marks)
