-- What is kept of an accepted program that is to run.
use Rattle.std.specs.Prelude.{ℕ, ◌≡◌, List, [], Vec, Option, Some, None, length, map, slice_get}
use Rattle.std.specs.declared.alloc.Global.{Global}
use Rattle.base.specs.declared.tree.ArrayId.{ArrayId}
use Rattle.base.specs.declared.tree.Program.{Program}
use Rattle.base.specs.declared.tree.Region.{Region}
use Rattle.base.specs.declared.item.Section.{Section}
use Rattle.base.specs.Accepted.{IsAccepted}
use Rattle.base.specs.Actions.{touches_in}
use Rattle.base.specs.Items.{Work, plan}
use Rattle.base.specs.Meaning.{lengths_of}
use Rattle.frames.specs.Reach.{AreRuns, HasTouched}
use Rattle.mapcheck.specs.Third.{AreMarked}
use Rattle.outline.specs.Regions.{Entry, entries_of}

-- the region of an item, or one without statements
abbrev pub IsRegionOf : Option Region → Region → Type 0
IsRegionOf None r = r.body.items ≡ []
IsRegionOf (Some s) r = r ≡ s

-- runs of the arrays' cells that have each cell which the item's region may touch
pub record IsReach (lengths : List ℕ) (w : Work) (reach : List Section) : Type 0 where
  pub runs : AreRuns lengths reach
  pub touched : HasTouched reach (touches_in w)

abbrev pub region_of : Entry → Region
region_of e = e.region

abbrev pub AreReaches : List ℕ → List Work → List (Vec Section Global) → Type 0
AreReaches lengths works reaches = (i : ℕ) (w : Work) (v : Vec Section Global) → slice_get works i ≡ Some w →
    slice_get reaches i ≡ Some v → IsReach lengths w v.items

-- the regions and the reaches are those of an accepted program
pub record IsImage (p : Program) (none : Region) (codes : List Region) (marked : List ArrayId)
    (reaches : List (Vec Section Global)) : Type 0 where
  pub accepted : IsAccepted (plan p)
  pub no_statement : none.body.items ≡ []
  pub codes_kept : codes ≡ map region_of (entries_of p)
  pub marked_kept : AreMarked (plan p) marked
  pub all_reached : length reaches ≡ length (plan p).items
  pub reaches_kept : AreReaches (lengths_of p) (plan p).items reaches
