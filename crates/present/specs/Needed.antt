-- The cells that entries in turn would create, beside sections that are to be created.
use Rattle.std.specs.Prelude.{ℕ, ◌≡◌, ◌⊎◌, ◌≤◌, ◌^◌, Bool, true, false, ◌||◌, List, [], ◌∷◌, Option, Some, None, is_some}
use Rattle.std.specs.List.{list_any}
use Rattle.base.specs.declared.item.Cell.{Cell}
use Rattle.base.specs.declared.item.Section.{Section}
use Rattle.base.specs.declared.item.MapItem.{MapItem}
use Rattle.base.specs.Memory.{is_in}
use Rattle.base.specs.Map.{Block as Present, need}
use Rattle.present.specs.declared.Table.{Table}
use Rattle.present.specs.declared.needed.Created.{Created}
use Rattle.present.specs.declared.needed.Created.TheVariants.{Nothing, Also'}
use Rattle.present.specs.Blocks.{IsSection, stored_at}
use Rattle.base.specs.Blocks.{AreApart, holder}

abbrev pub sections_in : Created → List Section
sections_in Nothing = []
sections_in (Also' s p others) = s ∷ sections_in others

abbrev pub AreAll : List Section → Type 0
AreAll [] = Unit {0}
AreAll (s ∷ rest) = IsSection s × AreAll rest

abbrev pub in_one : List Section → Cell → Bool
in_one sections c = list_any (λ s. is_in c s) sections

-- a cell that a section shares with one of these
pub record Meets (sections : List Section) (s : Section) : Type 0 where
  pub cell : Cell
  pub inside : is_in cell s ≡ true
  pub met : in_one sections cell ≡ true

-- it shares one where the answer says so
abbrev pub IsMetOr : List Section → Section → Bool → Type 0
IsMetOr sections s true = Meets sections s
IsMetOr sections s false = (c : Cell) → is_in c s ≡ true → in_one sections c ≡ false

-- whether a cell has storage, or will have it
abbrev pub is_taken : Table → List Section → Cell → Bool
is_taken t sections c = is_some (stored_at t.blocks.items c) || in_one sections c

pub record Takes (t : Table) (sections : List Section) (s : Section) : Type 0 where
  pub cell : Cell
  pub inside : is_in cell s ≡ true
  pub taken : is_taken t sections cell ≡ true

-- no cell of the section is taken where the answer says so
abbrev pub IsFreeOr : Table → List Section → Section → Bool → Type 0
IsFreeOr t sections s true = (c : Cell) → is_in c s ≡ true → is_taken t sections c ≡ false
IsFreeOr t sections s false = Takes t sections s

-- whether an entry creates its block
abbrev pub IsNewOr : Table → List Section → MapItem → Bool → Type 0
IsNewOr t sections item true = (item.present ≡ false) × IsFreeOr t sections item.section true
IsNewOr t sections item false = (item.present ≡ true) ⊎ Takes t sections item.section

-- blocks that have the table's cells, and those of the sections
pub record Covers (t : Table) (sections : List Section) (blocks : List Present) : Type 0 where
  pub apart : AreApart blocks
  pub held : (c : Cell) → is_some (holder blocks c) ≡ is_taken t sections c

abbrev pub IsNumber : ℕ → Option ℕ → Type 0
IsNumber n None = 2 ^ 64 ≤ n
IsNumber n (Some m) = m ≡ n

-- what entries would create, beside any blocks that have these cells
abbrev pub Needs : Table → List Section → List MapItem → Option ℕ → Type 0
Needs t sections items answer = (blocks : List Present) → Covers t sections blocks →
    IsNumber (need items blocks) answer
