-- Items by the sections of their depend items.
use Rattle.std.specs.Prelude.{ℕ, ◌≡◌, ◌<◌, ◌≤◌, Bool, true, false, not, ◌&&◌, ◌||◌, nat_le, nat_lt, Contains, List, Some, slice_get, slice_index_or, length}
use Rattle.std.specs.List.{All}
use Rattle.base.specs.declared.item.Depend.{Depend}
use Rattle.base.specs.declared.item.Item.{Item}
use Rattle.base.specs.declared.item.Section.{Section}
use Rattle.base.specs.Machine.{writes_to}
use Rattle.base.specs.Memory.{overlaps, same_section}
use Rattle.order.specs.declared.touches.Touch.{Touch}
use Rattle.order.specs.declared.touches.Touches.{Touches}
use Rattle.order.specs.Apart.{is_same_or_behind}

-- whether u is of a section behind t's, or of the same at no lesser item
abbrev pub is_in_turn : Touch → Touch → Bool
is_in_turn t u =
    is_same_or_behind t.section u.section && (not (same_section t.section u.section) || nat_le t.item u.item)

-- whether t is of a section behind s, or of s at a later item than i
abbrev pub is_later : Section → ℕ → Touch → Bool
is_later s i t = is_same_or_behind s t.section && (not (same_section s t.section) || nat_lt i t.item)

abbrev pub AreInTurn : List Touch → Type 0
AreInTurn ts =
    (i j : ℕ) (t : Touch) → i ≤ j → j < length ts → is_in_turn (slice_index_or ts i t) (slice_index_or ts j t) ≡ true

-- the depend items' sections at item j are there, or those that are written
abbrev pub HasTouchesOf : Bool → List Depend → ℕ → List Touch → Type 0
HasTouchesOf written ds j ts =
    All (λ d. (not written || writes_to d.kind) ≡ true → Contains ts (record { section = d.section; item = j })) ds

-- those of the first items are there
pub record AreSome (its : List Item) (written : Bool) (count : ℕ) (ts : List Touch) : Type 0 where
  pub has : (j : ℕ) (it : Item) → j < count → slice_get its j ≡ Some it → HasTouchesOf written it.depends.items j ts
  pub inside : All (λ t. t.item < length its) ts

pub record AreTouches (its : List Item) (written : Bool) (ts : List Touch) : Type 0 where
  pub has : (j : ℕ) (it : Item) → slice_get its j ≡ Some it → HasTouchesOf written it.depends.items j ts
  pub inside : All (λ t. t.item < length its) ts
  pub turn : AreInTurn ts

-- a depend item that overlaps the section is of the same
abbrev pub MeetsSame : List Item → Section → Type 0
MeetsSame its s = (j : ℕ) (it : Item) (e : Depend) → slice_get its j ≡ Some it → Contains it.depends.items e →
    overlaps s e.section ≡ true → same_section s e.section ≡ true

pub record HasTouches (its : List Item) (touches : Touches) : Type 0 where
  pub all : AreTouches its false touches.all.items
  pub written : AreTouches its true touches.written.items
