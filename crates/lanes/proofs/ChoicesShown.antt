-- Choices in blocks of turns, shown on worked examples, as in a loop over i with no loop around it.
use Rattle.std.proofs.Common.{◌≡◌, ℕ, Bool, true, false, List, [], ◌∷◌, Some, refl, lit<, Box, Vec, Global}
use Rattle.std.specs.Prelude.{◌==◌, ◌*◌}
use Rattle.base.specs.declared.item.Cell.{Cell}
use Rattle.base.specs.declared.tree.BinaryOp.TheVariants.{Add, Less}
use Rattle.base.specs.declared.tree.Expr.{Expr}
use Rattle.base.specs.declared.tree.Expr.TheVariants.{Number, Scalar, LoopName, Cell', Binary'}
use Rattle.base.specs.declared.tree.Place.{Place}
use Rattle.base.specs.declared.tree.Source.TheVariants.{Value}
use Rattle.base.specs.declared.tree.Stmt.{Stmt}
use Rattle.base.specs.declared.tree.Stmt.TheVariants.{Assign, Store}
use Rattle.base.specs.Memory.{View}
use Rattle.base.specs.Meaning.{Run}
use Rattle.base.proofs.Trees.{choice}
use Rattle.lanes.specs.Apart.{Set, is_turn, own_value_places, in_block, body_apart, loose_body, assigned_in, Block, block_body, block_start}

module _ (p : Box (Unit {0}) Global) (v : Vec (Unit {0}) Global) (place : Place) where
  abbrev i : Expr
  i = LoopName 0

  -- A[e], and x
  abbrev a : Expr → Expr
  a e = Cell' (record { 0 = 0 }) place p e

  abbrev put : Expr → Expr → Stmt
  put e f = Store (record { 0 = 0 }) place e (Value f)

  abbrev set : Expr → Stmt
  set e = Assign (record { 0 = 7 }) (Value e)

  abbrev x : Expr
  x = Scalar (record { 0 = 7 })

  abbrev more : Expr → ℕ → Expr
  more e n = Binary' Add p e p (Number n)

  abbrev below : Expr → ℕ → Expr
  below e n = Binary' Less p e p (Number n)

  -- if (c) { first } else { second }, and with no second branch
  abbrev if_else : Expr → Stmt → Stmt → Stmt
  if_else c first second = choice v c (first ∷ []) (second ∷ []) (lit< tt) (lit< tt)

  abbrev only_if : Expr → Stmt → Stmt
  only_if c first = choice v c (first ∷ []) [] (lit< tt) (lit< tt)

  abbrev stored : Set
  stored n = n == 0

  abbrev own : Set
  own n = n == 7

  abbrev apart : List Stmt → Bool
  apart body = body_apart stored own own (is_turn 0) body

  -- if (A[i] < 3) { A[i] = A[i] + 1; } else { A[i] = 0; }
  abbrev grow : Stmt
  grow = if_else (below (a i) 3) (put i (more (a i) 1)) (put i (Number 0))

  grow_apart : apart (grow ∷ []) ≡ true
  grow_apart = refl

  -- not where a branch stores in another turn's cell, or the condition or a branch reads one
  stores_next : apart (only_if (below (a i) 3) (put (more i 1) (Number 0)) ∷ []) ≡ false
  stores_next = refl

  asks_next : apart (only_if (below (a (more i 1)) 3) (put i (Number 0)) ∷ []) ≡ false
  asks_next = refl

  reads_next : apart (only_if (below (a i) 3) (put i (a (more i 1))) ∷ []) ≡ false
  reads_next = refl

  -- a scalar that a branch assigns is assigned in that branch, and behind the choice only where it was before
  in_branch : apart (choice v (below (a i) 3) (set (a i) ∷ put i x ∷ []) [] (lit< tt) (lit< tt) ∷ []) ≡ true
  in_branch = refl

  behind : apart (only_if (below (a i) 3) (set (a i)) ∷ put i x ∷ []) ≡ false
  behind = refl

  was_assigned : apart (set (Number 5) ∷ only_if (below (a i) 3) (set (a i)) ∷ put i x ∷ []) ≡ true
  was_assigned = refl

  stays : loose_body own (only_if (below (a i) 3) (set (a i)) ∷ []) 7 ≡ true
  stays = refl

  is_assigned : assigned_in (only_if (below (a i) 3) (set (a i)) ∷ []) 7 ≡ true
  is_assigned = refl

  -- A[i] is 2 * i
  abbrev view : View
  view c = Some (2 * c.index)

  abbrev begun : Run
  begun = record { scalars = λ n. 0; stores = []; input = []; printed = [] }

  -- turns 0 to 3 of this body
  abbrev done : List Stmt → Block
  done body = block_body own_value_places (in_block 0 4) [] body (block_start view begun)

  abbrev at : ℕ → Cell
  at n = record { array = record { 0 = 0 }; index = n }

  -- A is 0 2 4 6 8 before, and 1 3 0 0 8 after
  grown : ((done (grow ∷ [])).cells (at 0) ≡ Some 1) × ((done (grow ∷ [])).cells (at 1) ≡ Some 3)
      × ((done (grow ∷ [])).cells (at 2) ≡ Some 0) × ((done (grow ∷ [])).cells (at 3) ≡ Some 0)
      × ((done (grow ∷ [])).cells (at 4) ≡ Some 8)
  grown = (refl, refl, refl, refl, refl)

  -- one choice in another: only turn 1 has a number below 3 that is not 0
  abbrev nested : Stmt
  nested = only_if (below (a i) 3) (only_if (a i) (put i (Number 9)))

  inner : (apart (nested ∷ []) ≡ true) × ((done (nested ∷ [])).cells (at 0) ≡ Some 0)
      × ((done (nested ∷ [])).cells (at 1) ≡ Some 9) × ((done (nested ∷ [])).cells (at 2) ≡ Some 4)
  inner = (refl, refl, refl, refl)

  -- x of the turns that take no part stays
  scalars_kept : ((done (set (Number 5) ∷ only_if (below (a i) 3) (set (a i)) ∷ [])).scalars 1 7 ≡ 2)
      × ((done (set (Number 5) ∷ only_if (below (a i) 3) (set (a i)) ∷ [])).scalars 2 7 ≡ 5)
  scalars_kept = (refl, refl)
