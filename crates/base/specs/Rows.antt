-- Numbers that stand in a row: a list whose first has the index `first`.
use Rattle.std.specs.Prelude.{ℕ, ◌-◌, Bool, true, false, nat_le, List, Option, Some, None, slice_get}

-- what stands at an index
abbrev pub at_index : {A : Type 0} → ℕ → List A → ℕ → Option A
at_index first xs i = elim (nat_le first i) [ true ↦ slice_get xs (i - first) | false ↦ None ]

-- a number, where its mark is set
abbrev pub if_marked : Option Bool → Option ℕ → Option ℕ
if_marked None o = None
if_marked (Some false) o = None
if_marked (Some true) o = o
