-- The cells of one array.
use Rattle.std.specs.Prelude.{ℕ, ◌≡◌, ◌<◌, ◌≤◌, Bool, true, ◌&&◌, nat_le}
use Rattle.base.specs.declared.fault.Interval.{Interval}
use Rattle.bits.specs.declared.set.BitSet.{BitSet}
use Rattle.bits.specs.Sets.{has}

-- the numbers from the first up to the end are in the set
abbrev pub HasFrom : BitSet → ℕ → ℕ → Type 0
HasFrom row first end = (i : ℕ) → first ≤ i → i < end → has row i ≡ true

abbrev pub is_within : Interval → ℕ → Bool
is_within cells i = nat_le cells.lo i && nat_le i cells.hi

-- the numbers of the interval are in the set
abbrev pub HasWithin : BitSet → Interval → Type 0
HasWithin row cells = (i : ℕ) → is_within cells i ≡ true → has row i ≡ true
