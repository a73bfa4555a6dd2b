-- The arrays of both runs. The first has one more for each boxed scalar, behind those of the second.
use Rattle.std.proofs.Common.{◌≡◌, ℕ, ◌<◌, ◌≤◌, true, List, Some, ◌∙◌}
use Rattle.base.specs.declared.item.Cell.{Cell}
use Rattle.base.specs.declared.tree.ArrayId.{ArrayId}
use Rattle.base.specs.Memory.{Memory, Scalars, is_cell}
use Rattle.c_expressions.specs.declared.scope.Meaning.TheVariants as meaning
use Rattle.c_expressions.specs.Means.{Names}
use Rattle.c_expressions.specs.Scopes.{Boxes, box_of}
use Rattle.erased_meaning.proofs.Entries.{Entry, Each, each_both}

-- the cell of a boxed scalar
abbrev pub box_cell : ArrayId → Cell
box_cell a = record { array = a; index = 0 }

-- how many arrays the second run has, the arrays of the boxed scalars, and the lengths of both runs' arrays
pub record Layout : Type 0 where
  pub arrays : ℕ
  pub boxes : Boxes
  pub first : List ℕ
  pub second : List ℕ
  pub same : (c : Cell) → c.array.0 < arrays → is_cell first c ≡ is_cell second c
  pub behind : (x : List ℕ) (a : ArrayId) → box_of boxes x ≡ Some a → arrays ≤ a.0
  pub there : (x : List ℕ) (a : ArrayId) → box_of boxes x ≡ Some a → is_cell first (box_cell a) ≡ true
  pub apart : (x y : List ℕ) (a : ArrayId) → box_of boxes x ≡ Some a → box_of boxes y ≡ Some a → x ≡ y

-- a name's number or array is one of those that are declared so far
abbrev pub IsHeld : Layout → ℕ → Entry → Type 0
IsHeld d scalars (x, meaning.Array a) = a.0 < d.arrays
IsHeld d scalars (x, meaning.Scalar n i) = n.0 < scalars
IsHeld d scalars (x, meaning.Boxed a n) = (n.0 < scalars) × (box_of d.boxes x ≡ Some a)
IsHeld d scalars (x, meaning.Loop n) = Unit {0}

-- ---- scalars that can be named

-- the scalar has the same value in both runs; the first run's may be that of a cell
abbrev pub IsSame : Memory → Scalars → Scalars → Entry → Type 0
IsSame m f g (x, meaning.Array a) = Unit {0}
IsSame m f g (x, meaning.Scalar n i) = f n.0 ≡ g n.0
IsSame m f g (x, meaning.Boxed a n) = m (box_cell a) ≡ g n.0
IsSame m f g (x, meaning.Loop n) = Unit {0}

abbrev pub Agree : Memory → Scalars → Scalars → Names → Type 0
Agree m f g ns = Each (IsSame m f g) ns

-- where no box is changed
pub agree_outside : (d : Layout) (m l : Memory) (f g : Scalars) (scalars : ℕ) (ns : Names) →
    ((a : ArrayId) → d.arrays ≤ a.0 → l (box_cell a) ≡ m (box_cell a)) → Each (IsHeld d scalars) ns → Agree m f g ns →
    Agree l f g ns
agree_outside d m l f g scalars ns e h a = each_both (IsHeld d scalars) (IsSame m f g) (IsSame l f g) ns one h a
  where
    one : (n : Entry) → IsHeld d scalars n → IsSame m f g n → IsSame l f g n
    one (x, meaning.Array a) h s = s
    one (x, meaning.Scalar n i) h s = s
    one (x, meaning.Boxed a n) h s = e a (d.behind x a h.1) ∙ s
    one (x, meaning.Loop n) h s = s
