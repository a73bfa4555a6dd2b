-- What the third pass finds.
use Rattle.std.specs.Prelude.{ℕ, ◌≡◌, ◌<◌, List, [], Option, None, Some, Vec, map, filter, take, length}
use Rattle.std.specs.List.{range_with_len}
use Rattle.std.specs.declared.alloc.Global.{Global}
use Rattle.base.specs.declared.fault.Refusal.{Refusal}
use Rattle.base.specs.declared.tree.ArrayId.{ArrayId}
use Rattle.base.specs.declared.item.Cell.{Cell}
use Rattle.base.specs.Items.{Plan}
use Rattle.base.specs.Current.{is_marked}
use Rattle.base.specs.Accepted.{Conflicts, IsAccepted, IsFault, IsFirstFault, Refused}
use Rattle.base.specs.Order.{Before}
use Rattle.mapwalk.specs.declared.rows.Acts.{Acts}
use Rattle.mapwalk.specs.Acts.{acts_rows}
use Rattle.mapwalk.specs.Walk.{array_number, row_items}
use Rattle.mapcheck.specs.declared.accesses.Accesses.{Accesses}
use Rattle.mapcheck.specs.Unordered.{AreOfItems}

-- these are the rows of the first items
abbrev pub AreFirstRows : Plan → List (Vec Acts Global) → Type 0
AreFirstRows plan rows = map row_items rows ≡ take (length rows) (acts_rows plan.items (λ d. []))

-- none of the first items is refused by itself
abbrev pub NoneAlone : Plan → ℕ → Type 0
NoneAlone plan n = (g : Refusal) → g.item < n → g.other ≡ None → IsFault plan (Refused g) → ⊥

-- the accesses of the first items
pub record AreOfFirst (plan : Plan) (n : ℕ) (list : List Accesses) : Type 0 where
  pub count : length list ≡ n
  pub are : AreOfItems plan list

-- the arrays of which each cell is current on the host at the end, in ascending order
abbrev pub AreMarked : Plan → List ArrayId → Type 0
AreMarked plan arrays = map array_number arrays ≡ filter (is_marked plan) (range_with_len 0 (length plan.lengths))

-- the program is accepted, and these are the arrays marked current
pub record IsPassed (plan : Plan) (arrays : List ArrayId) : Type 0 where
  pub accepted : IsAccepted plan
  pub marked : AreMarked plan arrays

-- what the third pass finds: the first fault of the plan, or that it is accepted, with the arrays marked current
abbrev pub IsJudged : Plan → List ArrayId → Option Refusal → Type 0
IsJudged plan arrays None = IsPassed plan arrays
IsJudged plan arrays (Some r) = IsFirstFault plan (Refused r)

-- of every two items that conflict the earlier is before the later
abbrev pub AreOrdered : Plan → Type 0
AreOrdered plan = (i j : ℕ) (c : Cell) → i < j → Conflicts plan i j c → Before plan i j
