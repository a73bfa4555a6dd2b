-- Sections none of which overlap without being identical.
use Rattle.std.specs.Prelude.{◌≡◌, Bool, ◌&&◌, ◌||◌, ◌==◌, nat_lt, nat_le, Contains, List, None, map, flat_map}
use Rattle.base.specs.declared.item.Section.{Section}
use Rattle.base.specs.declared.item.Item.{Item}
use Rattle.base.specs.Memory.{end_of, same_section}
use Rattle.order.specs.Clashes.{clash_of}

-- the sections of the depend items of some items
abbrev pub sections_of : List Item → List Section
sections_of its = flat_map (λ it. map (λ d. d.section) it.depends.items) its

-- whether t is s, or lies behind it: in a later array, or from the end of s on
abbrev pub is_same_or_behind : Section → Section → Bool
is_same_or_behind s t =
    same_section s t || (nat_lt s.array.0 t.array.0 || ((s.array.0 == t.array.0) && nat_le (end_of s) t.first))

abbrev pub AreApart : List Section → Type 0
AreApart ss = (s t : Section) → Contains ss s → Contains ss t → clash_of s t ≡ None
