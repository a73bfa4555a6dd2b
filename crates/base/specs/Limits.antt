-- What no program exceeds.
use Rattle.std.specs.Prelude.{◌≤◌, ℕ, slice_index}
use Rattle.base.specs.declared.tree.Program.{Program}
use Rattle.base.specs.Meaning.{lengths_of}

-- the longest list of items
abbrev pub most_items : ℕ
most_items = 65536

-- no array has more than 65,536 cells
abbrev pub AreShort : Program → Type 0
AreShort p = (a : ℕ) → slice_index (lengths_of p) a ≤ 65536
