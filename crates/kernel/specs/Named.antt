-- The scalars of statements are among those that there are.
use Rattle.std.specs.Prelude.{◌<◌, List, [], ◌∷◌}
use Rattle.base.specs.declared.tree.Expr.{Expr}
use Rattle.base.specs.declared.tree.Expr.TheVariants.{Number, Scalar, LoopName, Cell', Unary', Binary', And', Or', Shift', Divide'}
use Rattle.base.specs.declared.tree.Source.{Source}
use Rattle.base.specs.declared.tree.Source.TheVariants.{Value, Read}
use Rattle.base.specs.declared.tree.Stmt.{Stmt, Row_of-Stmt, end_of-Stmt, more_of-Stmt}
use Rattle.base.specs.declared.tree.Stmt.TheVariants.{Declare, Assign, Store, Combine, Print, Block', Loop', If'}

-- of an expression
abbrev pub IsNamed : Expr → Type 0
IsNamed (Number n) = Unit {0}
IsNamed (Scalar x) = x.0 < 256
IsNamed (LoopName level) = Unit {0}
IsNamed (Cell' a place p e) = IsNamed e
IsNamed (Unary' o p e) = IsNamed e
IsNamed (Binary' o p e q f) = IsNamed e × IsNamed f
IsNamed (And' p e q f) = IsNamed e × IsNamed f
IsNamed (Or' p e q f) = IsNamed e × IsNamed f
IsNamed (Shift' o p e n) = IsNamed e
IsNamed (Divide' o p e n) = IsNamed e

abbrev pub IsSourceNamed : Source → Type 0
IsSourceNamed (Value e) = IsNamed e
IsSourceNamed Read = Unit {0}

abbrev mutual
  -- of a statement, with those in it
  pub IsStmtNamed : Stmt → Type 0
  IsStmtNamed (Declare x v) = (x.0 < 256) × IsSourceNamed v
  IsStmtNamed (Assign x v) = (x.0 < 256) × IsSourceNamed v
  IsStmtNamed (Store a place e v) = IsNamed e × IsSourceNamed v
  IsStmtNamed (Combine op a place e v) = IsNamed e × IsNamed v
  IsStmtNamed (Print e) = IsNamed e
  IsStmtNamed (Block' shape all) = IsRowNamed all
  IsStmtNamed (Loop' b shape all) = IsRowNamed all
  IsStmtNamed (If' c shape all shape' all') = IsNamed c × IsRowNamed all × IsRowNamed all'

  pub IsRowNamed : {m : _} → Row_of-Stmt m → Type 0
  IsRowNamed end_of-Stmt = Unit {0}
  IsRowNamed (more_of-Stmt first rest) = IsStmtNamed first × IsRowNamed rest

-- of statements
abbrev pub AreNamed : List Stmt → Type 0
AreNamed [] = Unit {0}
AreNamed (first ∷ rest) = IsStmtNamed first × AreNamed rest
