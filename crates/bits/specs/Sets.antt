-- Sets of numbers.
use Rattle.std.specs.Prelude.{ℕ, ◌≡◌, ◌+◌, ◌-◌, ◌*◌, ◌/◌, ◌%◌, ◌<◌, ◌≤◌, Bool, true, false, ◌==◌, ◌&&◌, nat_le, nat_lt, List, ◌++◌, replicate, slice_index, length, Option, Some, None}
use Rattle.std.specs.Int.{bit_at}
use Rattle.bits.specs.declared.set.BitSet.{BitSet}

-- whether a bit of these words is set; past their end none is
abbrev pub has_bit : List ℕ → ℕ → Bool
has_bit words i = bit_at (slice_index words (i / 64)) (i % 64) == 1

-- the words of the set from number 0 on: those that are not kept, all of them 0, and those that are
unfoldable pub all_words : BitSet → List ℕ
all_words s = replicate s.skipped 0 ++ s.words.items

-- whether the number is in the set
abbrev pub has : BitSet → ℕ → Bool
has s i = has_bit (all_words s) i

-- below this number the set has no bits
abbrev pub start : BitSet → ℕ
start s = 64 * s.skipped

-- one past the last number of which the set has a bit
abbrev pub room : BitSet → ℕ
room s = 64 * length (all_words s)

-- the least room for so many numbers
abbrev pub room_for : ℕ → ℕ
room_for count = 64 * ((count + 63) / 64)

-- whether a number is one of those from the first up to the end
abbrev pub is_from : ℕ → ℕ → ℕ → Bool
is_from first end i = nat_le first i && nat_lt i end

-- the second set has the same members, and its bits are for the same numbers
pub record IsSame (s t : BitSet) : Type 0 where
  pub members : (i : ℕ) → has t i ≡ has s i
  pub start : start t ≡ start s
  pub room : room t ≡ room s

-- the least number at which a test holds, if it does at any
abbrev pub IsFirstAt : (ℕ → Bool) → Option ℕ → Type 0
IsFirstAt p None = (i : ℕ) → p i ≡ false
IsFirstAt p (Some i) = (p i ≡ true) × ((j : ℕ) → j < i → p j ≡ false)

-- one past the last number at which a test holds, or 0 where there is none
pub record IsEndOf (p : ℕ → Bool) (end : ℕ) : Type 0 where
  pub below : (i : ℕ) → p i ≡ true → i < end
  pub last : 1 ≤ end → p (end - 1) ≡ true
