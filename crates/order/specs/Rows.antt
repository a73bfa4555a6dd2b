-- For each item those that it is before.
use Rattle.std.specs.Prelude.{ℕ, ◌≡◌, ◌<◌, ◌≤◌, Bool, true, false, ◌&&◌, ◌||◌, nat_le, List, Option, Some, None, slice_get, length}
use Rattle.std.specs.List.{list_any}
use Rattle.base.specs.Items.{Work, Plan}
use Rattle.base.specs.Limits.{most_items}
use Rattle.base.specs.declared.item.Depend.{Depend}
use Rattle.base.specs.Machine.{is_empty, is_wait, match_depends, on_item, writes_to}
use Rattle.base.specs.Memory.{same_section}
use Rattle.base.specs.Order.{Before, IsAfterAll}
use Rattle.bits.specs.Sets.{has}
use Rattle.order.specs.declared.rows.Row.{Row}

-- a `taskwait` without a `depend` clause
abbrev pub is_bare_wait : Work → Bool
is_bare_wait w = is_wait w.kind && is_empty w.depends

-- a depend item of the earlier item matches one of the later
abbrev pub do_match : Work → Work → Bool
do_match earlier later = list_any (λ d. list_any (match_depends d) later.depends) earlier.depends

abbrev pub waits_at : Plan → ℕ → Bool
waits_at plan j = on_item plan j false is_bare_wait

abbrev pub match_at : Plan → ℕ → ℕ → Bool
match_at plan i j = on_item plan i false (λ earlier. on_item plan j false (do_match earlier))

-- a depend item matches one of item j
abbrev pub match_of : Plan → Depend → ℕ → Bool
match_of plan d j = on_item plan j false (λ w. list_any (match_depends d) w.depends)

-- what the depend item matches item i matches, as where it is one of item i's
abbrev pub IsDependOf : Plan → ℕ → Depend → Type 0
IsDependOf plan i d = (j : ℕ) → match_of plan d j ≡ true → match_at plan i j ≡ true

-- one of the depend items writes the section of d
abbrev pub overwrite : List Depend → Depend → Bool
overwrite es d = list_any (λ e. writes_to e.kind && same_section e.section d.section) es

-- the least item from one on that is a `taskwait` without a `depend` clause, or the number of items
pub record IsNextWait (plan : Plan) (first wait : ℕ) : Type 0 where
  pub inside : wait ≤ length plan.items
  pub waits : wait < length plan.items → (first ≤ wait) × (waits_at plan wait ≡ true)
  pub first_one : (j : ℕ) → first ≤ j → j < wait → waits_at plan j ≡ false

-- whether the row has item j: from its place on it has every item, and below it its members
abbrev pub is_in : Row → ℕ → Bool
is_in r j = nat_le r.place j || has r.later j

-- the row has the items that item i is before, and its place is the least one
pub record IsRow (plan : Plan) (i : ℕ) (r : Row) : Type 0 where
  pub place : IsAfterAll plan i r.place
  pub holds : (j : ℕ) → has r.later j ≡ true → Before plan i j
  pub found : (j : ℕ) → Before plan i j → is_in r j ≡ true

abbrev pub IsRowThere : Plan → ℕ → Option Row → Type 0
IsRowThere plan i None = ⊥
IsRowThere plan i (Some r) = IsRow plan i r

-- the rows of the items from one on
abbrev pub AreRowsFrom : Plan → ℕ → List Row → Type 0
AreRowsFrom plan first rows = (i : ℕ) → first ≤ i → i < length rows → IsRowThere plan i (slice_get rows i)

-- the row has some of the items that item i is before, and with an item all that this item is before
pub record IsPart (plan : Plan) (i : ℕ) (r : Row) : Type 0 where
  pub inside : r.place ≤ length plan.items
  pub few : (j : ℕ) → has r.later j ≡ true → j < length plan.items
  pub holds : (j : ℕ) → j < length plan.items → is_in r j ≡ true → Before plan i j
  pub closed : (j k : ℕ) → is_in r j ≡ true → Before plan j k → is_in r k ≡ true

-- the row has each `taskwait` without a `depend` clause behind item i
abbrev pub HasWaits : Plan → ℕ → Row → Type 0
HasWaits plan i r = (j : ℕ) → i < j → waits_at plan j ≡ true → is_in r j ≡ true

-- the row has each item behind item i that one of its depend items leads to
abbrev pub HasMatches : Plan → ℕ → Row → Type 0
HasMatches plan i r = (j : ℕ) → i < j → match_at plan i j ≡ true → is_in r j ≡ true

-- the row has each item behind item i that the depend item leads to
abbrev pub HasMatchesOf : Plan → ℕ → Row → Depend → Type 0
HasMatchesOf plan i r d = (j : ℕ) → i < j → match_of plan d j ≡ true → is_in r j ≡ true

-- the rows of all items
pub record IsOrder (plan : Plan) (rows : List Row) : Type 0 where
  pub many : length rows ≡ length plan.items
  pub most : length rows ≤ most_items
  pub are : AreRowsFrom plan 0 rows
