-- Where sections of two items overlap without being identical.
use Rattle.std.specs.Prelude.{ℕ, ◌≡◌, ◌<◌, not, ◌&&◌, max, if◌then◌else◌, List, [], ◌∷◌, Option, Some, None, slice_get}
use Rattle.base.specs.declared.item.Cell.{Cell}
use Rattle.base.specs.declared.item.Section.{Section}
use Rattle.base.specs.declared.item.Depend.{Depend}
use Rattle.base.specs.declared.item.Item.{Item}
use Rattle.base.specs.declared.fault.OrderFault.{OrderFault}
use Rattle.base.specs.Least.{lesser}
use Rattle.base.specs.Memory.{overlaps, same_section}

-- the first cell of both, where they overlap without being identical
unfoldable pub clash_of : Section → Section → Option Cell
clash_of s t =
    if overlaps s t && not (same_section s t) then Some (record { array = s.array; index = max s.first t.first }) else None

-- the least clash of a depend item with others, and of what was found before
abbrev pub least_of_one : Depend → List Depend → Option Cell → Option Cell
least_of_one d [] least = least
least_of_one d (e ∷ rest) least = least_of_one d rest (lesser least (clash_of d.section e.section))

-- the least clash of some depend items with others, and of what was found before
abbrev pub least_of_all : List Depend → List Depend → Option Cell → Option Cell
least_of_all [] later least = least
least_of_all (d ∷ rest) later least = least_of_all rest later (least_of_one d later least)

abbrev pub least_clash : List Depend → List Depend → Option Cell
least_clash earlier later = least_of_all earlier later None

-- the least clash of item i with item j
abbrev pub clash_at : List Item → ℕ → ℕ → Option Cell
clash_at its i j = elim (slice_get its i) [
  | None ↦ None
  | Some earlier ↦ elim (slice_get its j) [
    | None ↦ None
    | Some later ↦ least_clash earlier.depends.items later.depends.items
  ]
]

-- no item below i clashes with item j
abbrev pub NoneBelow : List Item → ℕ → ℕ → Type 0
NoneBelow its i j = (k : ℕ) → k < i → clash_at its k j ≡ None

-- the item's least clash with the least earlier item
pub record IsFound (its : List Item) (j : ℕ) (f : OrderFault) : Type 0 where
  pub item : f.item ≡ j
  pub earlier : f.other < j
  pub cell : clash_at its f.other j ≡ Some f.cell
  pub first : NoneBelow its f.other j

-- item j's first clash with an earlier item, if there is one
abbrev pub IsClashOf : List Item → ℕ → Option OrderFault → Type 0
IsClashOf its j None = NoneBelow its j j
IsClashOf its j (Some f) = IsFound its j f

-- no item below j clashes with an earlier one
abbrev pub NoClashBelow : List Item → ℕ → Type 0
NoClashBelow its j = (k : ℕ) → k < j → NoneBelow its k k

-- the first item's clash, if there is one
abbrev pub IsFirstFound : List Item → Option OrderFault → Type 0
IsFirstFound its None = (j : ℕ) → NoneBelow its j j
IsFirstFound its (Some f) = IsFound its f.item f × NoClashBelow its f.item
