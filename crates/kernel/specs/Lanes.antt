-- A block of turns in the machine.
use Rattle.std.specs.Prelude.{ℕ, ◌≡◌, ◌+◌, ◌-◌, ◌<◌, nat_le, nat_lt, ◌&&◌, if◌then◌else◌, Bool, true, false, List, [], ◌∷◌, ◌++◌, length, Some, None, slice_get, slice_index, slice_index_or, option_and_then, Option}
use Rattle.base.specs.declared.tree.ArrayId.{ArrayId}
use Rattle.base.specs.declared.tree.Expr.{Expr}
use Rattle.base.specs.Memory.{Scalars, View}
use Rattle.base.specs.Value.{Names, value}
use Rattle.base.specs.Meaning.{set_scalar}
use Rattle.lanes.specs.Apart.{Places, Block, in_block, names_at, numbers, own_value_places, set_lanes, store_lanes, with_lanes}
use Rattle.kernel.specs.Rows.{cells_kept, parts_stored}
use Rattle.kernel.specs.Rows.{Parts}
use Rattle.kernel.specs.declared.turns.Lane.{Lane}
use Rattle.kernel.specs.declared.turns.Turns.{Turns}
use Rattle.kernel.specs.declared.turns.Reads.{Reads}

-- the scalars of a turn: what it has assigned, the last first, and else what was there
abbrev pub lane_scalars : List Lane → Scalars → ℕ → Scalars
lane_scalars [] before k = before
lane_scalars (l ∷ rest) before k = set_scalar l.scalar.0 (slice_index l.numbers.items k) (lane_scalars rest before k)

-- each lane has a number for each turn
abbrev pub HaveSize : ℕ → List Lane → Type 0
HaveSize n [] = Unit {0}
HaveSize n (l ∷ rest) = (length l.numbers.items ≡ n) × HaveSize n rest

-- what a turn sees, by its place in the block
abbrev pub names_of : Reads → ℕ → Names
names_of b k =
    record {
      scalars = lane_scalars b.lanes.now (slice_index b.at.now.scalars.now) k;
      loops = b.at.now.outer.now ++ (b.at.now.first + k) ∷ [];
      cells = cells_kept b.rows.now;
    }

-- what stands at a cell of an array by its index
abbrev pub cell_of : ArrayId → Expr → Names → Option ℕ
cell_of a index names = option_and_then (λ i. names.cells (record { array = a; index = i })) (value index names)

-- a number is the one that is there, if one is
pub record Agrees (o : Option ℕ) (n : ℕ) : Type 0 where
  pub is : (x : ℕ) → o ≡ Some x → n ≡ x

-- the numbers of an expression in those turns of a block in which it has a value
abbrev pub AreValues : Expr → Reads → List ℕ → Type 0
AreValues e b ys = (k : ℕ) → k < length ys → Agrees (value e (names_of b k)) (slice_index ys k)

-- what stands at cells of an array, where they are there
abbrev pub AreLoaded : View → ArrayId → (ℕ → ℕ) → List ℕ → Type 0
AreLoaded view a index ys = (k : ℕ) → k < length ys → Agrees (view (record { array = a; index = index k })) (slice_index ys k)

-- as many cells of an array from an index on
pub record IsRun (view : View) (a : ArrayId) (first n : ℕ) (xs : List ℕ) : Type 0 where
  pub size : length xs ≡ n
  pub each : (k : ℕ) → k < n → Agrees (view (record { array = a; index = first + k })) (slice_index xs k)

-- whether a turn takes part, by its place in the block
abbrev pub takes_part : Turns → ℕ → Bool
takes_part at k = elim at.mask [ None ↦ true | Some m ↦ slice_index_or m.now k false ]

-- the turns of the block that take part
abbrev pub inside_of : Turns → ℕ → Bool
inside_of at v = takes_part at (v - at.first) && in_block at.first at.count v

-- the turns of the block that a mask has
abbrev pub masked : Turns → List Bool → ℕ → Bool
masked at mask v = slice_index_or mask (v - at.first) false && in_block at.first at.count v

-- as many turns, from this one on, of which a mask says which take part
abbrev pub some_of : (ℕ → Bool) → ℕ → ℕ → ℕ → Bool
some_of part first n v = part (v - first) && in_block first n v

-- where a block of turns stands; each turn of it has its scalars, whether it takes part or not
abbrev pub block_of : Turns → List Lane → List Parts → Block
block_of at lanes rows =
    record {
      scalars =
          λ v. if in_block at.first at.count v then lane_scalars lanes (slice_index at.scalars.now) (v - at.first)
          else slice_index at.scalars.now;
      cells = cells_kept rows;
      stored = parts_stored rows;
    }

-- the numbers of an expression in the turns that take part, by their place
abbrev pub AreNumbersOf : Turns → Expr → Block → List ℕ → Type 0
AreNumbersOf at e b ys =
    (k : ℕ) → k < at.count → takes_part at k ≡ true → value e (names_at b at.outer.now (at.first + k)) ≡ Some (slice_index ys k)

-- the numbers of a scalar when the turns that take part assigned it
abbrev pub AreAssigned : Turns → ℕ → Expr → List Lane → Block → List ℕ → Type 0
AreAssigned at x e lanes b ys =
    (k : ℕ) → k < at.count → slice_index ys k
    ≡ (if takes_part at k then numbers e b at.outer.now (at.first + k) else lane_scalars lanes (slice_index at.scalars.now) k x)

-- a mask of the turns of a block that has these
pub record IsPart (at : Turns) (mask : List Bool) (inside : ℕ → Bool) : Type 0 where
  pub size : length mask ≡ at.count
  pub is : masked at mask ≡ inside

-- before its first statement
abbrev pub begun_block : List ℕ → List Parts → Block
begun_block scalars rows = record { scalars = λ v. slice_index scalars; cells = cells_kept rows; stored = parts_stored rows }

-- the scalars and the rows are as a block leaves them, with the scalars of its last turn
pub record IsBlock (b : Block) (last : ℕ) (numbers : List ℕ) (rows : List Parts) : Type 0 where
  pub scalars : slice_index numbers ≡ b.scalars last
  pub cells : cells_kept rows ≡ b.cells
  pub stored : parts_stored rows ≡ b.stored

-- a scalar that turns of a block assign, and cells that they store
abbrev pub assigned_lanes : (ℕ → Bool) → List ℕ → ℕ → Expr → Block → Block
assigned_lanes inside loops x e b = set_lanes inside x (numbers e b loops) b

abbrev pub stored_lanes : Places → (ℕ → Bool) → List ℕ → ℕ → Expr → Block → Block
stored_lanes at inside loops a e b = store_lanes at inside a (numbers e b loops) b

-- of numbers that go into cells of an array from an index on, those whose place takes part are there
abbrev pub IsStoredIn : (ℕ → Bool) → ℕ → ℕ → ℕ → (ℕ → ℕ) → View → View → Type 0
IsStoredIn part first n a f old new = new ≡ with_lanes own_value_places (some_of part first n) a (λ i. f (i - first)) old

-- from a place on, of as many elements of a list those that take part became what f makes of their number
pub record Over (A : Type 0) (part : ℕ → Bool) (f : ℕ → A) (at n : ℕ) (xs ys : List A) : Type 0 where
  pub size : length ys ≡ length xs
  pub each : (k : ℕ) → slice_get ys k
      ≡ (if part (k - at) && (nat_le at k && nat_lt k (at + n)) then Some (f (k - at)) else slice_get xs k)

-- of numbers those that take part went into the cells of a row from a place on, which are marked
pub record HasPut (part : ℕ → Bool) (at : ℕ) (numbers : List ℕ) (old new : Parts) : Type 0 where
  pub first : new.0 ≡ old.0
  pub cells : Over ℕ part (slice_index numbers) at (length numbers) old.1 new.1
  pub marks : Over Bool part (λ k. true) at (length numbers) old.2 new.2

-- all of them
abbrev pub all_of : ℕ → Bool
all_of k = true

-- numbers, one at least, that follow one another
pub record IsRunFrom (xs : List ℕ) (first : ℕ) : Type 0 where
  pub some : 0 < length xs
  pub each : (k : ℕ) → k < length xs → slice_index xs k ≡ first + k
