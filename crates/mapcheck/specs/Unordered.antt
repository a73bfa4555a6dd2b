-- Conflicts of items of which neither is before the other.
use Rattle.std.specs.Prelude.{ℕ, ◌≡◌, ◌<◌, ◌≤◌, false, List, if◌then◌else◌, Option, Some, None, slice_get}
use Rattle.base.specs.declared.item.Cell.{Cell}
use Rattle.base.specs.declared.fault.Refusal.{Refusal}
use Rattle.base.specs.declared.fault.RefusalCode.TheVariants.{Conflict}
use Rattle.base.specs.Items.{Plan}
use Rattle.base.specs.Actions.{Stage, stages}
use Rattle.base.specs.Accepted.{IsFault, IsRefusal, Refused, fault_key, key_less}
use Rattle.base.specs.Least.{is_less}
use Rattle.mapcheck.specs.declared.accesses.Accesses.{Accesses}
use Rattle.mapcheck.specs.Accesses.{AreAccesses}

abbrev pub AreAccessesOf : Option Stage → Accesses → Type 0
AreAccessesOf None a = ⊥
AreAccessesOf (Some s) a = AreAccesses a s.work.device s.actions

-- the accesses of the first items
abbrev pub AreOfItems : Plan → List Accesses → Type 0
AreOfItems plan list = (k : ℕ) (a : Accesses) → slice_get list k ≡ Some a → AreAccessesOf (slice_get (stages plan) k) a

-- item j is refused for a conflict on this cell with item i
abbrev pub IsUnordered : Plan → ℕ → ℕ → Cell → Type 0
IsUnordered plan i j c = IsRefusal plan Conflict j c (Some i)

-- the least cell on which item j is refused for a conflict with item i
abbrev pub IsLeastUnordered : Plan → ℕ → ℕ → Option Cell → Type 0
IsLeastUnordered plan i j None = (c : Cell) → IsUnordered plan i j c → ⊥
IsLeastUnordered plan i j (Some c) = IsUnordered plan i j c × ((d : Cell) → IsUnordered plan i j d → is_less d c ≡ false)

abbrev pub conflict_of : ℕ → Cell → ℕ → Refusal
conflict_of j c i = record { code = Conflict; item = j; cell = c; other = Some i }

-- the earlier of two conflicts, by cell; of two on one cell, what was found
abbrev pub earlier : Option Refusal → Refusal → Refusal
earlier None next = next
earlier (Some first) next = if is_less next.cell first.cell then next else first

-- of the conflicts of item j with the items below i the first one
pub record IsFirstBelow (plan : Plan) (i j : ℕ) (r : Refusal) : Type 0 where
  pub other : ℕ
  pub below : other < i
  pub is : r ≡ conflict_of j r.cell other
  pub holds : IsUnordered plan other j r.cell
  pub least : (k : ℕ) (d : Cell) → k < i → IsUnordered plan k j d → is_less d r.cell ≡ false
  pub first : (k : ℕ) (d : Cell) → k < i → IsUnordered plan k j d → is_less r.cell d ≡ false → other ≤ k

-- if there is one
abbrev pub IsFoundBelow : Plan → ℕ → ℕ → Option Refusal → Type 0
IsFoundBelow plan i j None = (k : ℕ) (d : Cell) → k < i → IsUnordered plan k j d → ⊥
IsFoundBelow plan i j (Some r) = IsFirstBelow plan i j r

-- item j is refused for this conflict, and for none before it: the least cell, and then the least other item
pub record IsFirstConflict (plan : Plan) (j : ℕ) (r : Refusal) : Type 0 where
  pub code : r.code ≡ Conflict
  pub item : r.item ≡ j
  pub holds : IsFault plan (Refused r)
  pub first : (g : Refusal) → g.code ≡ Conflict → g.item ≡ j → IsFault plan (Refused g) →
      key_less (fault_key (Refused g)) (fault_key (Refused r)) ≡ false

-- the first conflict for which item j is refused, if it is for any
abbrev pub IsConflictOf : Plan → ℕ → Option Refusal → Type 0
IsConflictOf plan j None = (g : Refusal) → g.code ≡ Conflict → g.item ≡ j → IsFault plan (Refused g) → ⊥
IsConflictOf plan j (Some r) = IsFirstConflict plan j r

-- none of the first items is refused for a conflict
abbrev pub NoConflictBelow : Plan → ℕ → Type 0
NoConflictBelow plan n = (j : ℕ) → j < n → IsConflictOf plan j None

-- of the first items the first conflict
pub record IsFirstIn (plan : Plan) (n : ℕ) (r : Refusal) : Type 0 where
  pub inside : r.item < n
  pub below : NoConflictBelow plan r.item
  pub first : IsFirstConflict plan r.item r

abbrev pub IsConflictIn : Plan → ℕ → Option Refusal → Type 0
IsConflictIn plan n None = NoConflictBelow plan n
IsConflictIn plan n (Some r) = IsFirstIn plan n r
