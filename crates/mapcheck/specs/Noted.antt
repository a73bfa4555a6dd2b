-- The items that were looked at, by the places that they read or write.
use Rattle.std.specs.Prelude.{ℕ, ◌≡◌, ◌<◌, ◌+◌, ◌*◌, Bool, true, false, ◌&&◌, ◌==◌, min, ◌⊎◌, List, Some, slice_get, nat_eq}
use Rattle.std.specs.HashMap.{get}
use Rattle.std.specs.List.{list_any}
use Rattle.base.specs.declared.item.Cell.{Cell}
use Rattle.base.specs.declared.item.Loc.{Loc}
use Rattle.base.specs.declared.item.Loc.TheVariants.{Host, Dev, Tab}
use Rattle.base.specs.declared.tree.ArrayId.{ArrayId}
use Rattle.base.specs.Items.{Plan}
use Rattle.base.specs.Order.{IsBeforeAll}
use Rattle.mapcheck.specs.declared.accesses.Access.{Access}
use Rattle.mapcheck.specs.declared.accesses.Accesses.{Accesses}
use Rattle.mapcheck.specs.declared.noted.Noted.{Noted}
use Rattle.mapcheck.specs.declared.noted.Touch.{Touch}
use Rattle.mapcheck.specs.Accesses.{access_reads, access_writes}
use Rattle.mapcheck.specs.Rows as rows
use Rattle.mapcheck.specs.Rows.{width}
use Rattle.mapcheck.specs.Segments.{is_from}

-- a number below 16 for each location; two locations may have one number
abbrev pub number_of : Loc → ℕ
number_of Host = 0
number_of (Dev d) = 2 * min d 6 + 1
number_of (Tab d) = 2 * min d 6 + 2

-- the row of a cell's array at a location; two arrays may have one row
abbrev pub row_of : Loc → ArrayId → ℕ
row_of loc array = number_of loc * 65536 + min array.0 65535

-- the cell's place in it; two cells may have one place
abbrev pub place_of : Cell → ℕ
place_of c = min c.index 65535

-- that item k reads the place of a row, or writes it, shows in what is noted there
abbrev pub Covers : Plan → Noted → ℕ → ℕ → ℕ → Bool → Type 0
Covers plan noted r p k writes = rows.Covers plan (get nat_eq noted.rows r) p k writes

-- what shows in the first shows in the second
abbrev pub AreKept : Plan → Noted → Noted → Type 0
AreKept plan old new = (r : ℕ) → rows.AreKept plan (get nat_eq old.rows r) (get nat_eq new.rows r)

-- item j, which reads or writes the place, comes after all others of which a conflicting access shows there
abbrev pub IsClearAt : Plan → Noted → ℕ → Bool → ℕ → ℕ → Type 0
IsClearAt plan noted j writes r p = rows.IsClearAt plan (get nat_eq noted.rows r) j writes p

-- item j was looked at with some places of a row that it reads, or writes; if it is clear, it was so with all of them
pub record AreSeen (plan : Plan) (old new : Noted) (j : ℕ) (writes : Bool) (r : ℕ) (places : ℕ → Bool) (is_clear : Bool) : Type 0 where
  pub kept : AreKept plan old new
  pub shown : (p : ℕ) → p < width → places p ≡ true → Covers plan new r p j writes
  pub clear : is_clear ≡ true → (p : ℕ) → p < width → places p ≡ true → IsClearAt plan old j writes r p

-- the same with some cells at locations, of which it reads or writes each
pub record IsSeen (plan : Plan) (old new : Noted) (j : ℕ) (touched : Bool → Loc → Cell → Type 0) (is_clear : Bool) : Type 0 where
  pub kept : AreKept plan old new
  pub shown : (writes : Bool) (loc : Loc) (c : Cell) → touched writes loc c → Covers plan new (row_of loc c.array) (place_of c) j writes
  pub clear : is_clear ≡ true → (writes : Bool) (loc : Loc) (c : Cell) → touched writes loc c →
      IsClearAt plan old j writes (row_of loc c.array) (place_of c)

-- cells at one location, all read or all written
abbrev pub IsTouched : Touch → (Cell → Bool) → Bool → Loc → Cell → Type 0
IsTouched t cells writes loc c = (writes ≡ t.writes) × (loc ≡ t.loc) × (cells c ≡ true)

-- cells of an array from the first up to the end
abbrev pub is_run : ArrayId → ℕ → ℕ → Cell → Bool
is_run array first end c = (c.array.0 == array.0) && is_from first end c.index

-- what an access, or one of some accesses, reads or writes
abbrev pub is_accessed : Access → Bool → Loc → Cell → Bool
is_accessed a true loc c = access_writes a loc c
is_accessed a false loc c = access_reads a loc c

abbrev pub IsAccessed : List Access → Bool → Loc → Cell → Type 0
IsAccessed list writes loc c = list_any (λ a. is_accessed a writes loc c) list ≡ true

-- the item shows at each place that these accesses read or write
abbrev pub IsShown : Plan → Noted → ℕ → List Access → Type 0
IsShown plan noted k list =
    (writes : Bool) (loc : Loc) (c : Cell) → IsAccessed list writes loc c → Covers plan noted (row_of loc c.array) (place_of c) k writes

-- each of the first items is before all from this number on, or shows at each place that it reads or writes
abbrev pub AreNoted : Plan → List Accesses → ℕ → Noted → Type 0
AreNoted plan list n noted =
    (k : ℕ) (a : Accesses) → k < n → slice_get list k ≡ Some a → IsBeforeAll plan k n ⊎ IsShown plan noted k a.list.items

-- each of the first items is before all from a place on
abbrev pub AreBeforeAll : Plan → ℕ → ℕ → Type 0
AreBeforeAll plan n place = (k : ℕ) → k < n → IsBeforeAll plan k place
