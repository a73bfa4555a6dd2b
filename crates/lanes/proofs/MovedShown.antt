-- Indices that are moved on by a number, shown on worked examples, as in a loop over j in a loop over i, which stands at 3.
use Rattle.std.proofs.Common.{◌≡◌, true, false, [], ◌∷◌, refl, Box}
use Rattle.std.specs.Prelude.{◌==◌}
use Rattle.std.specs.declared.alloc.Global.{Global}
use Rattle.base.specs.declared.tree.BinaryOp.TheVariants.{Add, Multiply, Subtract}
use Rattle.base.specs.declared.tree.Expr.{Expr}
use Rattle.base.specs.declared.tree.Expr.TheVariants.{Number, Scalar, LoopName, Binary'}
use Rattle.base.specs.Memory.{Scalars}
use Rattle.lanes.specs.Apart.{Set}
use Rattle.lanes.specs.Moved.{is_moved, moved_places}

module _ (p : Box (Unit {0}) Global) where
  abbrev i : Expr
  i = LoopName 0

  abbrev j : Expr
  j = LoopName 1

  abbrev n : Expr
  n = Scalar (record { 0 = 7 })

  -- the scalar is 256
  abbrev scalars : Scalars
  scalars x = 256

  abbrev none : Set
  none x = false

  abbrev only_n : Set
  only_n x = x == 7

  -- 256 * i + j, and j + n * i
  row_first : is_moved none scalars (3 ∷ []) 768 (Binary' Add p (Binary' Multiply p (Number 256) p i) p j) ≡ true
  row_first = refl

  row_last : is_moved none scalars (3 ∷ []) 768 (Binary' Add p j p (Binary' Multiply p n p i)) ≡ true
  row_last = refl

  -- not where a turn assigns n, at another number, without j, or where it is subtracted
  assigned : is_moved only_n scalars (3 ∷ []) 768 (Binary' Add p j p (Binary' Multiply p n p i)) ≡ false
  assigned = refl

  other_number : is_moved none scalars (3 ∷ []) 767 (Binary' Add p (Binary' Multiply p (Number 256) p i) p j) ≡ false
  other_number = refl

  without : is_moved none scalars (3 ∷ []) 768 (Binary' Add p (Binary' Multiply p (Number 256) p i) p i) ≡ false
  without = refl

  subtracted : is_moved none scalars (3 ∷ []) 768 (Binary' Subtract p (Binary' Multiply p (Number 256) p i) p j) ≡ false
  subtracted = refl

-- turn 5 stands at index 773
at_place : (moved_places 768).place 5 ≡ 773
at_place = refl

at_turn : (moved_places 768).turn_of 773 ≡ 5
at_turn = refl
