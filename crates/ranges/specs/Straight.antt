-- Statements without loops and conditions, as a list of their accesses.
use Rattle.std.specs.Prelude.{ℕ, ◌≡◌, Bool, List, [], ◌∷◌, ◌++◌, None, map}
use Rattle.base.specs.declared.tree.Bounds.{Bounds}
use Rattle.base.specs.Footprint.{Touch, turns_touch}
use Rattle.base.specs.Interval.{interval}
use Rattle.base.specs.Meaning.{turns_left}
use Rattle.ranges.specs.declared.access.Access.{Access}

-- what an access touches
abbrev pub touch_at : List ℕ → Bool → Access → Touch
touch_at loops certain a = record {
  array = a.array;
  cells = interval a.subscript.now loops;
  is_write = a.writes;
  certain = certain;
  combines = None;
  place = a.place;
}

abbrev pub touches_at : List Access → List ℕ → Bool → List Touch
touches_at accesses loops certain = map (touch_at loops certain) accesses

-- the accesses in the turns from v on
abbrev pub turns_at : ℕ → Bounds → List Access → List ℕ → Bool → List Touch
turns_at v b accesses loops certain = turns_touch (turns_left v b) v b.step
    (λ v. touches_at accesses (loops ++ v ∷ []) certain)

-- accesses that touch this were added
abbrev pub Adds : (List ℕ → Bool → List Touch) → List Access → List Access → Type 0
Adds touches old new =
    (loops : List ℕ) (certain : Bool) → touches_at new loops certain ≡ touches_at old loops certain ++ touches loops certain
