-- What two items that conflict do to a cell.
use Rattle.std.specs.Prelude.{◌≡◌, Bool, true, false, ◌||◌, List, Some, if◌then◌else◌}
use Rattle.base.specs.Accepted.{on_stage}
use Rattle.base.specs.Actions.{item_reads, item_writes}
use Rattle.base.specs.Items.{Plan}
use Rattle.base.specs.declared.fault.Refusal.{Refusal}
use Rattle.base.specs.declared.item.Cell.{Cell}
use Rattle.base.specs.declared.item.Loc.{Loc}
use Rattle.mapcheck.specs.Accesses.{same_loc, some_reads, some_writes}
use Rattle.mapcheck.specs.declared.accesses.Access.{Access}
use Rattle.reasons.specs.declared.diagnosis.Conflict.{Conflict}
use Rattle.reasons.specs.declared.diagnosis.Diagnosis.{Diagnosis}
use Rattle.reasons.specs.declared.diagnosis.Touch.{Touch}

-- one of these accesses writes, or reads, the cell at that location
abbrev pub some_touch : List Access → Bool → Loc → Cell → Bool
some_touch list writes loc c = if writes then some_writes list loc c else some_reads list loc c

-- the item writes, or reads, the cell at that location
abbrev pub Touches : Plan → Cell → Touch → Type 0
Touches plan c t = on_stage plan t.item false (λ s. if t.writes then item_writes s t.loc c else item_reads s t.loc c) ≡ true

-- both touch the cell at one location, and one of them writes
pub record Meet (plan : Plan) (c : Cell) (conflict : Conflict) : Type 0 where
  pub first : Touches plan c conflict.first
  pub second : Touches plan c conflict.second
  pub location : same_loc conflict.first.loc conflict.second.loc ≡ true
  pub writes : (conflict.first.writes || conflict.second.writes) ≡ true

-- the diagnosis is of this item, and tells what it and the other one do to the cell
pub record TellsConflict (plan : Plan) (r : Refusal) (d : Diagnosis) : Type 0 where
  pub item : d.item ≡ Some r.item
  pub conflict : Conflict
  pub told : d.conflict ≡ Some conflict
  pub later : conflict.second.item ≡ r.item
  pub earlier : r.other ≡ Some conflict.first.item
  pub meet : Meet plan r.cell conflict
