-- The faults of range of one item, and the first of them.
use Rattle.std.specs.Prelude.{ℕ, ◌≡◌, Bool, false, ◌||◌, ◌&&◌, ◌==◌, nat_lt, nat_le, if◌then◌else◌, List, [], ◌∷◌, Option, Some, None, Contains}
use Rattle.base.specs.declared.tree.Place.{Place}
use Rattle.base.specs.declared.item.MapItem.{MapItem}
use Rattle.base.specs.declared.item.Depend.{Depend}
use Rattle.base.specs.declared.fault.RangeCode.{RangeCode}
use Rattle.base.specs.declared.fault.RangeFault.{RangeFault}
use Rattle.base.specs.Accepted.{section_fails, range_rank, key_less}

-- what faults of range of one item are compared by
abbrev pub range_key : RangeFault → List ℕ
range_key f = range_rank f.code ∷ f.line ∷ f.column ∷ []

abbrev pub fault_at : RangeCode → Place → RangeFault
fault_at code p = record { code = code; line = p.line; column = p.column }

-- one of the faults, with none before it
pub record IsFirst (faults : List RangeFault) (f : RangeFault) : Type 0 where
  pub holds : Contains faults f
  pub first : (g : RangeFault) → Contains faults g → key_less (range_key g) (range_key f) ≡ false

-- by line, and then by column
abbrev pub is_before : Place → Place → Bool
is_before a b = nat_lt a.line b.line || ((a.line == b.line) && nat_le a.column b.column)

abbrev pub lesser : Place → Option Place → Place
lesser place None = place
lesser place (Some found) = if is_before found place then found else place

-- the least of some places, and of what was found before
abbrev pub least_place : List Place → Option Place → Option Place
least_place [] least = least
least_place (p ∷ rest) least = least_place rest (Some (lesser p least))

abbrev pub with_place : Bool → Place → Option Place → Option Place
with_place fails place least = if fails then Some (lesser place least) else least

-- the least place of those that fail, and of what was found before
abbrev pub least_of : {A : Type 0} → (A → Bool) → (A → Place) → List A → Option Place → Option Place
least_of fails place [] least = least
least_of fails place (x ∷ rest) least = least_of fails place rest (with_place (fails x) (place x) least)

abbrev pub map_place : MapItem → Place
map_place m = record { line = m.line; column = m.column }

abbrev pub depend_place : Depend → Place
depend_place d = record { line = d.line; column = d.column }

abbrev pub least_map : List ℕ → List MapItem → Option Place → Option Place
least_map lengths maps least = least_of (λ m. section_fails lengths m.section) map_place maps least

abbrev pub least_depend : List ℕ → List Depend → Option Place → Option Place
least_depend lengths depends least = least_of (λ d. section_fails lengths d.section) depend_place depends least
