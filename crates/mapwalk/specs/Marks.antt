-- Marks of cells.
use Rattle.std.specs.Prelude.{ℕ, Bool, false, not, nat_lt, nat_le, ◌&&◌, ◌||◌, if◌then◌else◌}
use Rattle.base.specs.declared.item.Section.{Section}
use Rattle.base.specs.Memory.{end_of}
use Rattle.bits.specs.Sets.{has}
use Rattle.mapwalk.specs.declared.marks.Marks.{Marks}

-- whether a cell of an array is marked; past its end none is
abbrev pub has_mark : Marks → ℕ → Bool
has_mark m i = has m.cells i

abbrev pub covers : Section → ℕ → Bool
covers s i = nat_le s.first i && nat_lt i (end_of s)

abbrev pub copied : Section → (ℕ → Bool) → (ℕ → Bool) → ℕ → Bool
copied s from marks i = if covers s i then from i else marks i

abbrev pub cleared : Section → (ℕ → Bool) → ℕ → Bool
cleared s marks = copied s (λ i. false) marks

abbrev pub added : (ℕ → Bool) → (ℕ → Bool) → ℕ → Bool
added cells marks i = cells i || marks i

abbrev pub cut : (ℕ → Bool) → (ℕ → Bool) → ℕ → Bool
cut cells marks i = not (cells i) && marks i
