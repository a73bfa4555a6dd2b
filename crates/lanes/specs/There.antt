-- What a block of turns needs: a value for each expression in each of its turns, and each cell that it stores.
use Rattle.std.specs.Prelude.{ℕ, ◌≡◌, Bool, true, List, [], ◌∷◌, IsSome}
use Rattle.base.specs.declared.tree.Expr.{Expr}
use Rattle.base.specs.declared.tree.Source.TheVariants.{Value, Read}
use Rattle.base.specs.declared.tree.Stmt.{Stmt, Row_of-Stmt, end_of-Stmt, more_of-Stmt}
use Rattle.base.specs.declared.tree.Stmt.TheVariants.{Declare, Assign, Store, Combine, Print, Block', Loop', If'}
use Rattle.base.specs.Value.{value}
use Rattle.lanes.specs.Apart.{Places, Block, names_at, where_true, where_false, block_stmt, block_row}

-- an expression has a value in each turn of a block
abbrev pub HasValues : (ℕ → Bool) → List ℕ → Expr → Block → Type 0
HasValues inside loops e b = (v : ℕ) → inside v ≡ true → IsSome (value e (names_at b loops v))

abbrev mutual
  -- a choice needs its condition in all turns, and each branch in its own
  pub StmtThere : Places → (ℕ → Bool) → List ℕ → Stmt → Block → Type 0
  StmtThere at inside loops (Declare x (Value e)) b = HasValues inside loops e b
  StmtThere at inside loops (Declare x Read) b = Unit {0}
  StmtThere at inside loops (Assign x (Value e)) b = HasValues inside loops e b
  StmtThere at inside loops (Assign x Read) b = Unit {0}
  StmtThere at inside loops (Store a place e (Value f)) b =
      HasValues inside loops f b
      × ((v : ℕ) → inside v ≡ true → IsSome (b.cells (record { array = a; index = at.place v })))
  StmtThere at inside loops (Store a place e Read) b = Unit {0}
  StmtThere at inside loops (Combine op c place e v) b = Unit {0}
  StmtThere at inside loops (Print e) b = Unit {0}
  StmtThere at inside loops (Block' shape all) b = Unit {0}
  StmtThere at inside loops (Loop' c shape all) b = Unit {0}
  StmtThere at inside loops (If' c shape all shape' all') b =
      HasValues inside loops c b
      × RowThere at (where_true inside c b loops) loops all b
      × RowThere at (where_false inside c b loops) loops all' (block_row at (where_true inside c b loops) loops all b)

  pub RowThere : {m : _} → Places → (ℕ → Bool) → List ℕ → Row_of-Stmt m → Block → Type 0
  RowThere at inside loops end_of-Stmt b = Unit {0}
  RowThere at inside loops (more_of-Stmt first rest) b =
      StmtThere at inside loops first b × RowThere at inside loops rest (block_stmt at inside loops first b)

-- so it is for each statement of a body, in turn
abbrev pub BodyThere : Places → (ℕ → Bool) → List ℕ → List Stmt → Block → Type 0
BodyThere at inside loops [] b = Unit {0}
BodyThere at inside loops (first ∷ rest) b =
    StmtThere at inside loops first b × BodyThere at inside loops rest (block_stmt at inside loops first b)
