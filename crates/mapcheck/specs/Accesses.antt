-- What an item reads and writes, at each location.
use Rattle.std.specs.Prelude.{ℕ, ◌≡◌, ◌==◌, Bool, true, false, not, ◌&&◌, List, ◌∷◌, [], ◌++◌}
use Rattle.std.specs.List.{list_any}
use Rattle.base.specs.declared.item.Cell.{Cell}
use Rattle.base.specs.declared.item.Loc.{Loc}
use Rattle.base.specs.declared.item.Loc.TheVariants.{Host, Dev, Tab}
use Rattle.base.specs.Memory.{is_in}
use Rattle.base.specs.Footprint.{Touch, reads, writes}
use Rattle.base.specs.Actions.{Action, action_reads, action_writes, on_side, side_of}
use Rattle.ranges.specs.declared.cells.Footprint.{Footprint}
use Rattle.ranges.specs.Cells.{has}
use Rattle.mapcheck.specs.declared.accesses.Cells.{Cells}
use Rattle.mapcheck.specs.declared.accesses.Cells.TheVariants as cells
use Rattle.mapcheck.specs.declared.accesses.Access.{Access}
use Rattle.mapcheck.specs.declared.accesses.Accesses.{Accesses}

abbrev pub has_cell : Cells → Cell → Bool
has_cell (cells.Section s) c = is_in c s
has_cell (cells.Set s) c = has s.now c

abbrev pub same_loc : Loc → Loc → Bool
same_loc Host Host = true
same_loc (Dev d) (Dev e) = d == e
same_loc (Tab d) (Tab e) = d == e
same_loc _ _ = false

abbrev pub access_reads : Access → Loc → Cell → Bool
access_reads a loc c = same_loc a.loc loc && (not a.writes && has_cell a.cells c)

abbrev pub access_writes : Access → Loc → Cell → Bool
access_writes a loc c = same_loc a.loc loc && (a.writes && has_cell a.cells c)

abbrev pub some_reads : List Access → Loc → Cell → Bool
some_reads list loc c = list_any (λ a. access_reads a loc c) list

abbrev pub some_writes : List Access → Loc → Cell → Bool
some_writes list loc c = list_any (λ a. access_writes a loc c) list

-- whether one of these actions, of an item of device d, reads, or writes, the cell at a location
abbrev pub acts_read : ℕ → List Action → Loc → Cell → Bool
acts_read d actions loc c = on_side (side_of d loc) (λ side. list_any (λ x. action_reads x side c) actions)

abbrev pub acts_write : ℕ → List Action → Loc → Cell → Bool
acts_write d actions loc c = on_side (side_of d loc) (λ side. list_any (λ x. action_writes x side c) actions)

-- the accesses are those of these actions on device d: at each location the same cells are read and written
pub record AreAccesses (a : Accesses) (d : ℕ) (actions : List Action) : Type 0 where
  pub device : a.device ≡ d
  pub reads : (loc : Loc) (c : Cell) → some_reads a.list.items loc c ≡ acts_read d actions loc c
  pub writes : (loc : Loc) (c : Cell) → some_writes a.list.items loc c ≡ acts_write d actions loc c

-- the accesses of an action are added
abbrev pub GrowsBy : Action → Accesses → Accesses → Type 0
GrowsBy action old new =
    (d : ℕ) (actions : List Action) → AreAccesses old d actions → AreAccesses new d (actions ++ action ∷ [])

-- they are those of the same actions
abbrev pub IsKept : Accesses → Accesses → Type 0
IsKept old new = (d : ℕ) (actions : List Action) → AreAccesses old d actions → AreAccesses new d actions

-- the footprint has what is read and written
pub record HasTouches (f : Footprint) (touches : List Touch) : Type 0 where
  pub read : (c : Cell) → has f.read c ≡ reads touches c
  pub write : (c : Cell) → has f.write c ≡ writes touches c
