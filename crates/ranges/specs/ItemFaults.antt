-- The faults of range of an item, by its parts.
use Rattle.std.specs.Prelude.{ℕ, ◌≡◌, List, []}
use Rattle.base.specs.declared.fault.RangeFault.{RangeFault}
use Rattle.base.specs.Items.{Work}
use Rattle.base.specs.Accepted.{range_faults, region_faults, section_faults}
use Rattle.ranges.specs.Faults.{IsFirst}

-- the first fault of its sections is its first one; and where they have none, its faults are those of its region
pub record IsByParts (lengths : List ℕ) (w : Work) : Type 0 where
  pub sections : (f : RangeFault) → IsFirst (section_faults lengths w.maps w.depends) f → IsFirst
      (range_faults lengths w) f
  pub region : section_faults lengths w.maps w.depends ≡ [] → range_faults lengths w
      ≡ region_faults lengths w.loops w.region

-- of every item
abbrev pub AreByParts : Type 0
AreByParts = (lengths : List ℕ) (w : Work) → IsByParts lengths w
