-- The regions of a program, in order of the text.
use Rattle.std.specs.Prelude.{ℕ, Bool, false, true, ◌≡◌, min, List, [], ◌∷◌, ◌++◌, length, drop, flat_map}
use Rattle.base.specs.declared.tree.ArrayId.{ArrayId}
use Rattle.base.specs.declared.tree.ScalarId.{ScalarId}
use Rattle.base.specs.declared.tree.Region.{Region}
use Rattle.base.specs.declared.tree.Part.{Part, Row_of-Part, end_of-Part, more_of-Part}
use Rattle.base.specs.declared.tree.Part.TheVariants as part
use Rattle.base.specs.declared.tree.Program.{Program}
use Rattle.base.specs.Meaning.{lengths_of}
use Rattle.outline.specs.declared.RegionEntry.{RegionEntry}
use Rattle.outline.specs.Captures.{captures_of, arrays_of}

-- a region; whether it is that of a `target`; the scalars of the program that it reads and that are declared outside
-- it; the arrays that it uses
pub record Entry : Type 0 where
  pub region : Region
  pub is_kernel : Bool
  pub captures : List ScalarId
  pub arrays : List ArrayId

-- the entry of a region, in a program with so many scalars and arrays
abbrev pub entry : ℕ → ℕ → Bool → Region → Entry
entry scalars arrays is_kernel r =
    record { region = r; is_kernel = is_kernel; captures = captures_of scalars r; arrays = arrays_of arrays r }

abbrev mutual
  -- the entries of a part's regions
  pub part_entries : ℕ → ℕ → Part → List Entry
  part_entries scalars arrays (part.Host r) = entry scalars arrays false r ∷ []
  part_entries scalars arrays (part.Block' shape all) = row_entries scalars arrays all
  part_entries scalars arrays (part.Loop' b shape all) = row_entries scalars arrays all
  part_entries scalars arrays (part.Target t r) = entry scalars arrays true r ∷ []
  part_entries scalars arrays (part.Data' d shape all) = row_entries scalars arrays all
  part_entries scalars arrays (part.Alone place d) = []

  pub row_entries : {m : _} → ℕ → ℕ → Row_of-Part m → List Entry
  row_entries scalars arrays end_of-Part = []
  row_entries scalars arrays (more_of-Part first rest) =
      part_entries scalars arrays first ++ row_entries scalars arrays rest

abbrev pub list_entries : ℕ → ℕ → List Part → List Entry
list_entries scalars arrays parts = flat_map (part_entries scalars arrays) parts

-- the scalars that a tree can name
abbrev pub scalars_in : Program → ℕ
scalars_in p = min p.scalars 256

-- the entries of a program's regions
abbrev pub entries_of : Program → List Entry
entries_of p = list_entries (scalars_in p) (length (lengths_of p)) p.body.items

-- what an entry of the code says
abbrev pub entry_of : RegionEntry → Entry
entry_of e =
    record { region = e.region.now; is_kernel = e.is_kernel; captures = e.captures.items; arrays = e.arrays.items }

-- these entries stand from a place on
pub record StandAt (all : List Entry) (place : ℕ) (entries : List Entry) : Type 0 where
  pub rest : List Entry
  pub are : drop place all ≡ entries ++ rest
