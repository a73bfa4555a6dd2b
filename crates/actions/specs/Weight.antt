-- How much work without an action is left at most: a measure that each such step takes down.
use Rattle.std.specs.Prelude.{ℕ, ◌+◌, ◌*◌, List, [], ◌∷◌}
use Rattle.base.specs.declared.tree.Expr.{Expr}
use Rattle.base.specs.declared.tree.Expr.TheVariants.{Number, Scalar, LoopName, Cell', Unary', Binary', And', Or', Shift', Divide'}
use Rattle.base.specs.declared.tree.Source.{Source}
use Rattle.base.specs.declared.tree.Source.TheVariants.{Value, Read}
use Rattle.base.specs.declared.tree.Stmt.{Stmt, Row_of-Stmt, end_of-Stmt, more_of-Stmt}
use Rattle.base.specs.declared.tree.Stmt.TheVariants as stmt
use Rattle.base.specs.Meaning.{turns_of}
use Rattle.actions.specs.declared.frame.Frame.{Frame}
use Rattle.actions.specs.declared.frame.Frame.TheVariants as frame

-- of the parts that an expression begins with
abbrev pub expr_weight : Expr → ℕ
expr_weight (Number n) = 0
expr_weight (Scalar x) = 0
expr_weight (LoopName level) = 0
expr_weight (Cell' a place p e) = 1 + expr_weight e
expr_weight (Unary' op p a) = 1 + expr_weight a
expr_weight (Binary' op p a q b) = (2 + expr_weight b) + expr_weight a
expr_weight (And' p a q b) = (2 + expr_weight b) + expr_weight a
expr_weight (Or' p a q b) = (2 + expr_weight b) + expr_weight a
expr_weight (Shift' op p a n) = 1 + expr_weight a
expr_weight (Divide' op p a n) = 1 + expr_weight a

abbrev pub source_weight : Source → ℕ
source_weight (Value e) = expr_weight e
source_weight Read = 0

abbrev mutual
  pub stmt_weight : Stmt → ℕ
  stmt_weight (stmt.Declare x v) = 1 + source_weight v
  stmt_weight (stmt.Assign x v) = 1 + source_weight v
  stmt_weight (stmt.Store a place e v) = (2 + source_weight v) + expr_weight e
  stmt_weight (stmt.Combine op a place e v) = (2 + expr_weight v) + expr_weight e
  stmt_weight (stmt.Print e) = 1 + expr_weight e
  stmt_weight (stmt.Block' shape all) = 1 + row_weight all
  stmt_weight (stmt.Loop' b shape all) = 1 + turns_of b * (2 + row_weight all)
  stmt_weight (stmt.If' c shape all shape' all') = (2 + (row_weight all + row_weight all')) + expr_weight c

  pub row_weight : {m : _} → Row_of-Stmt m → ℕ
  row_weight end_of-Stmt = 0
  row_weight (more_of-Stmt first rest) = (1 + stmt_weight first) + row_weight rest

abbrev pub list_weight : List Stmt → ℕ
list_weight [] = 0
list_weight (first ∷ rest) = (1 + stmt_weight first) + list_weight rest

abbrev pub frame_weight : Frame → ℕ
frame_weight (frame.Load a) = 1
frame_weight (frame.Unary op) = 1
frame_weight (frame.Right op e) = 2 + expr_weight e.now
frame_weight (frame.Both op m) = 1
frame_weight (frame.AndRight e) = 2 + expr_weight e.now
frame_weight (frame.OrRight e) = 2 + expr_weight e.now
frame_weight frame.Truth = 1
frame_weight (frame.Shift op n) = 1
frame_weight (frame.Divide op n) = 1
frame_weight (frame.Subscript a v) = 2 + source_weight v.now
frame_weight (frame.Store a i) = 1
frame_weight (frame.Place op a e) = 2 + expr_weight e.now
frame_weight (frame.Combine op a i) = 1
frame_weight (frame.Assign x) = 1
frame_weight frame.Print = 1
frame_weight (frame.Choose first second) = 2 + (list_weight first.now + list_weight second.now)
frame_weight (frame.Rest all) = 1 + list_weight all.now
frame_weight (frame.Turns turns body) = 1 + turns.left * (2 + list_weight body.now)
frame_weight (frame.Entries maps) = 1
frame_weight (frame.Exits maps) = 1
frame_weight (frame.CopyIn cells) = 1
frame_weight (frame.CopyOut cells) = 1
frame_weight (frame.Remove held) = 1

unfoldable pub weight : List Frame → ℕ
weight [] = 0
weight (f ∷ rest) = frame_weight f + weight rest
