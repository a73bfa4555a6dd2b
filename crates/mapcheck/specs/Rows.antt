-- The items that read or write the cells of one row, by their places in it.
use Rattle.std.specs.Prelude.{ℕ, ◌≡◌, ◌≢◌, ◌<◌, Bool, true, false, ◌||◌, ◌⊎◌, Option, Some, None}
use Rattle.base.specs.Items.{Plan}
use Rattle.base.specs.Order.{Before}
use Rattle.mapcheck.specs.declared.rows.Row.{Row}
use Rattle.mapcheck.specs.Segments.{has}

-- the number of places of a row
abbrev pub width : ℕ
width = 65536

-- that item k reads the place, or writes it, shows in what is noted there: the item itself, or a later one that writes
abbrev pub Covers : Plan → Option Row → ℕ → ℕ → Bool → Type 0
Covers plan None p k writes = ⊥
Covers plan (Some row) p k writes =
    ((writes ≡ false) × (has row.reads width p k ≡ true)) ⊎
    ((m : ℕ) × (has row.writes width p m ≡ true) × ((k ≡ m) ⊎ Before plan k m))

-- what shows in the first shows in the second
abbrev pub AreKept : Plan → Option Row → Option Row → Type 0
AreKept plan old new =
    (p k : ℕ) (writes : Bool) → p < width → Covers plan old p k writes → Covers plan new p k writes

-- item j, which reads or writes the place, comes after all others of which a conflicting access shows there
abbrev pub IsClearAt : Plan → Option Row → ℕ → Bool → ℕ → Type 0
IsClearAt plan row j writes p =
    (k : ℕ) (writing : Bool) → (writing || writes) ≡ true → Covers plan row p k writing → k ≢ j → Before plan k j

-- item j was looked at with some places that it reads, or writes; if it is clear, it was so with all of them
pub record AreSeen (plan : Plan) (old new : Option Row) (j : ℕ) (writes : Bool) (places : ℕ → Bool) (is_clear : Bool) : Type 0 where
  pub kept : AreKept plan old new
  pub shown : (p : ℕ) → p < width → places p ≡ true → Covers plan new p j writes
  pub clear : is_clear ≡ true → (p : ℕ) → p < width → places p ≡ true → IsClearAt plan old j writes p
