-- Arrays of several dimensions, from what has been read.
use Rattle.std.specs.Prelude.{◌≡◌, ℕ, Bool, false, ◌&&◌, ◌||◌, ◌++◌, [], ◌∷◌, drop, Option, Some, None, if◌then◌else◌}
use Rattle.c_tokens.specs.declared.kind.Sign.TheVariants as sign
use Rattle.c_grammar.specs.Terminal.{Terminal, Name}
use Rattle.c_grammar.specs.Texts.{Item}
use Rattle.c_grammar.specs.Blocks.{Items}
use Rattle.c_grammar.specs.Changes.{is_mark}
use Rattle.c_grammar.specs.Expressions.{value_of}
use Rattle.c_grammar.specs.Functions.{index_len}
use Rattle.c_grammar.specs.Grids.{Declared, Grids, Ranges, Open, Onward, flat, has_second, is_row, row_begins, second_len}
use Rattle.c_written.specs.declared.grids.Array.{Array}
use Rattle.c_written.specs.declared.grids.Grids.{Grids as Given}
use Rattle.c_written.specs.declared.grids.Row.{Row as GivenRow}
use Rattle.c_terminals.specs.Held.{written_all}
use Rattle.c_written.specs.Indices.{ranges_of}
use Rattle.c_terminals.specs.Seen.{seen}
use Rattle.c_written.specs.Stack.{held}
use Rattle.c_written.specs.Values.{seen_values}

abbrev pub seen_array : Array → Declared
seen_array d = record { name = d.name.now; rows = d.rows; columns = d.columns }

abbrev pub columns_of : Given → Grids
columns_of g = seen_values g.columns

abbrev pub open_of : Given → Open
open_of g = held g.brackets

-- what is written in the end, where these tokens follow
abbrev pub with_grids : Bool → Given → Items → Items
with_grids deep g is = written_all g.done.items ++ flat deep (columns_of g) (ranges_of g.ranges) (open_of g) g.left is

-- what is written from the old goes on from the new, whatever follows
abbrev pub GoesOn : Given → (Grids → Ranges → Open → Onward → Items) → Given → Type 0
GoesOn old on new =
    (go : Onward) → written_all old.done.items ++ on (columns_of old) (ranges_of old.ranges) (open_of old) go
    ≡ written_all new.done.items ++ go (columns_of new) (ranges_of new.ranges) (open_of new) new.left

-- these tokens are put behind the others
pub record HasPut (old : Given) (is : Items) (new : Given) : Type 0 where
  pub done : written_all new.done.items ≡ written_all old.done.items ++ is
  pub columns : new.columns ≡ old.columns
  pub ranges : new.ranges ≡ old.ranges
  pub brackets : new.brackets ≡ old.brackets
  pub left : new.left ≡ old.left

-- only the ranges are others
pub record HasNoted (old : Given) (rs : Ranges) (new : Given) : Type 0 where
  pub done : new.done ≡ old.done
  pub columns : new.columns ≡ old.columns
  pub ranges : ranges_of new.ranges ≡ rs
  pub brackets : new.brackets ≡ old.brackets
  pub left : new.left ≡ old.left

-- the innermost bracket is closed
pub record HasPopped (old new : Given) : Type 0 where
  pub done : new.done ≡ old.done
  pub columns : new.columns ≡ old.columns
  pub ranges : new.ranges ≡ old.ranges
  pub brackets : open_of new ≡ drop 1 (open_of old)
  pub left : new.left ≡ old.left

-- a bracket of a first subscript, and how many cells a row has
abbrev pub Row : Type 0
Row = Item Terminal × ℕ

abbrev pub seen_row : GivenRow → Row
seen_row r = (seen r.bracket, r.columns)

-- the row that a name begins
abbrev pub row_of : Ranges → Option ℕ → Items → Option Row
row_of rs None is = None
row_of rs (Some m) [] = None
row_of rs (Some m) (o ∷ is) =
    if is_mark sign.OpenBracket o && has_second rs m (o ∷ is) (index_len 0 0 (o ∷ is)) then Some (o, m) else None

abbrev pub row_at : Grids → Ranges → Terminal → Items → Option Row
row_at gs rs (Name x) is = row_of rs (value_of gs x) is
row_at gs rs t is = None

-- a row by itself begins behind a name, or any subscript of three dimensions
abbrev pub twice_of : Bool → Option ℕ → Items → Bool
twice_of deep None is = false
twice_of deep (Some m) [] = false
twice_of deep (Some m) (o ∷ is) = is_mark sign.OpenBracket o && (deep || is_row (o ∷ is) (index_len 0 0 (o ∷ is)))

abbrev pub twice_at : Bool → Grids → Terminal → Items → Bool
twice_at deep gs (Name x) is = twice_of deep (value_of gs x) is
twice_at deep gs t is = false

abbrev pub once_or_twice : Item Terminal → Bool → Items
once_or_twice i twice = if twice then i ∷ i ∷ [] else i ∷ []

abbrev pub row_on : Grids → Ranges → Open → Item Terminal → Option Row → Bool → Onward → Items
row_on gs rs os i None twice go = once_or_twice i twice ++ go gs rs os 0
row_on gs rs os i (Some r) twice go = i ∷ (row_begins r.1 r.0 ++ go gs rs (Some r.1 ∷ os) 1)

-- how many tokens the second subscript behind a bracket has
abbrev pub added_len : Ranges → Open → Items → Option ℕ
added_len rs [] is = None
added_len rs (None ∷ os) is = None
added_len rs (Some m ∷ os) is = second_len rs m is
