-- Statements in a loop with no loop around it, and how often they name a cell.
use Rattle.std.proofs.Common.{◌≡◌, true, false, refl, Box, Global}
use Rattle.base.specs.declared.tree.ArrayId.{ArrayId}
use Rattle.base.specs.declared.tree.Place.{Place}
use Rattle.base.specs.declared.tree.BinaryOp.TheVariants.{Multiply, Subtract}
use Rattle.base.specs.declared.tree.Expr.{Expr}
use Rattle.base.specs.declared.tree.Expr.TheVariants.{Number, LoopName, Cell', Binary'}
use Rattle.base.specs.declared.tree.Source.TheVariants.{Value}
use Rattle.base.specs.declared.tree.Stmt.{Stmt}
use Rattle.base.specs.declared.tree.Stmt.TheVariants.{Store}
use Rattle.ranges.specs.FewRuns.{cells_in, is_plain}

module _ (a : ArrayId) (place : Place) (b : Box (Unit {0}) Global) where
  -- A[i] = A[e]
  abbrev copy : Expr → Stmt
  copy e = Store a place (LoopName 0) (Value (Cell' a place b e))

  abbrev one_back : Expr
  one_back = Binary' Subtract b (LoopName 0) b (Number 1)

  abbrev twice : Expr
  twice = Binary' Multiply b (Number 2) b (LoopName 0)

  copy_of_last : (is_plain 0 (copy one_back) ≡ true) × (cells_in (copy one_back) ≡ 2)
  copy_of_last = (refl, refl)

  copy_of_each_second : is_plain 0 (copy twice) ≡ false
  copy_of_each_second = refl

  other_loop : is_plain 1 (copy one_back) ≡ false
  other_loop = refl
