-- The least of some cells, by array and then by index.
use Rattle.std.specs.Prelude.{◌≡◌, Bool, true, false, nat_lt, ◌&&◌, ◌||◌, ◌==◌, if◌then◌else◌, Option, Some, None}
use Rattle.base.specs.declared.item.Cell.{Cell}

abbrev pub is_less : Cell → Cell → Bool
is_less c d = nat_lt c.array.0 d.array.0 || ((c.array.0 == d.array.0) && nat_lt c.index d.index)

-- the lesser of two cells, either of which may be missing
abbrev pub lesser : Option Cell → Option Cell → Option Cell
lesser None b = b
lesser (Some c) None = Some c
lesser (Some c) (Some d) = Some (if is_less d c then d else c)

-- the least cell at which a test holds, if it does at any
abbrev pub IsLeast : (Cell → Bool) → Option Cell → Type 0
IsLeast p None = (c : Cell) → p c ≡ false
IsLeast p (Some c) = (p c ≡ true) × ((d : Cell) → p d ≡ true → is_less d c ≡ false)
