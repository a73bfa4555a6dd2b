-- What a walk over a plan finds.
use Rattle.std.specs.Prelude.{ℕ, ◌≡◌, ◌≢◌, false, List, [], Option, Some, None, Vec, map, filter, take, length}
use Rattle.std.specs.List.{range_with_len}
use Rattle.std.specs.declared.alloc.Global.{Global}
use Rattle.base.specs.declared.fault.Refusal.{Refusal}
use Rattle.base.specs.declared.fault.RefusalCode.TheVariants.{Conflict}
use Rattle.base.specs.declared.tree.ArrayId.{ArrayId}
use Rattle.base.specs.Items.{Plan}
use Rattle.base.specs.Machine.{on_item}
use Rattle.base.specs.Current.{is_marked}
use Rattle.base.specs.Accepted.{IsFault, Refused, fault_key, key_less, range_faults}
use Rattle.mapwalk.specs.declared.rows.Acts.{Acts}
use Rattle.mapwalk.specs.declared.Walked.{Walked}
use Rattle.mapwalk.specs.Acts.{acts_rows}

abbrev pub HasNoRangeFault : Plan → Type 0
HasNoRangeFault plan = (i : ℕ) → on_item plan i [] (range_faults plan.lengths) ≡ []

-- how many items are before the refused one, or all
abbrev pub items_before : Plan → Option Refusal → ℕ
items_before plan None = length plan.items
items_before plan (Some r) = r.item

abbrev pub row_items : Vec Acts Global → List Acts
row_items row = row.items

-- a row for each item before the refused one
abbrev pub AreActs : Plan → Walked → Type 0
AreActs plan w = map row_items w.acts.items ≡ take (items_before plan w.fault) (acts_rows plan.items (λ d. []))

-- an item is refused by itself, and no item is before it
pub record IsFirstAlone (plan : Plan) (r : Refusal) : Type 0 where
  pub holds : IsFault plan (Refused r)
  pub alone : r.other ≡ None
  pub no_conflict : r.code ≢ Conflict
  pub first : (g : Refusal) → g.other ≡ None → IsFault plan (Refused g) → key_less (fault_key (Refused g))
      (fault_key (Refused r)) ≡ false

abbrev pub IsFirstRefusal : Plan → Option Refusal → Type 0
IsFirstRefusal plan None = Unit {0}
IsFirstRefusal plan (Some r) = IsFirstAlone plan r

-- where none is found, there is none
abbrev pub IsSound : Plan → Option Refusal → Type 0
IsSound plan None = (g : Refusal) → g.other ≡ None → IsFault plan (Refused g) → ⊥
IsSound plan (Some r) = Unit {0}

abbrev pub array_number : ArrayId → ℕ
array_number a = a.0

-- the arrays that are marked current
abbrev pub AreMarked : Plan → Option Refusal → List ArrayId → Type 0
AreMarked plan None arrays = map array_number arrays
    ≡ filter (is_marked plan) (range_with_len 0 (length plan.lengths))
AreMarked plan (Some r) arrays = arrays ≡ []

abbrev pub AreCurrent : Plan → Walked → Type 0
AreCurrent plan w = AreMarked plan w.fault w.current.items
