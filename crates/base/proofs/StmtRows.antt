-- The statements that stand in a statement, as the rows that its vectors have.
use mathlib.Core.Former.{Count}
use Rattle.base.specs.declared.tree.Stmt.{Stmt, Row_of-Stmt, end_of-Stmt}
use Rattle.base.specs.declared.tree.Stmt.TheVariants.{Block', Loop', If'}

abbrev pub StmtRow : Type 0
StmtRow = (n : Count) × Row_of-Stmt n

abbrev pub first_row : Stmt → StmtRow
first_row (Block' _ row) = (_, row)
first_row (Loop' _ _ row) = (_, row)
first_row (If' _ _ row _ _) = (_, row)
first_row _ = (_, end_of-Stmt)

abbrev pub second_row : Stmt → StmtRow
second_row (If' _ _ _ _ row) = (_, row)
second_row _ = (_, end_of-Stmt)
