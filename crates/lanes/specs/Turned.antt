-- Turns one after another, and the block of them.
use Rattle.std.specs.Prelude.{ℕ, Bool, ◌≡◌, suc, ◌+◌, true, false, List, [], ◌∷◌, ◌++◌, Some}
use Rattle.base.specs.declared.item.Cell.{Cell}
use Rattle.base.specs.declared.tree.Expr.{Expr}
use Rattle.base.specs.declared.tree.Stmt.{Stmt}
use Rattle.base.specs.Memory.{View, last_stored}
use Rattle.base.specs.Meaning.{Run, seen, turn, run_list}
use Rattle.lanes.specs.Apart.{Set, Places, NamesPlaces, HavePlaces, body_apart, loose_body, in_block, Block, block_body, block_start}
use Rattle.lanes.specs.There.{BodyThere}

-- a block is where a run stands, with the scalars of its last turn
pub record IsRun (view : View) (b : Block) (last : ℕ) (s u : Run) : Type 0 where
  pub scalars : (x : ℕ) → b.scalars last x ≡ u.scalars x
  pub cells : (c : Cell) → b.cells c ≡ seen view u.stores c
  pub stored : (c : Cell) → b.stored c ≡ last_stored u.stores c
  pub input : s.input ≡ u.input
  pub printed : s.printed ≡ u.printed

-- some turns of a loop, one after another, do what the block of them does assignment by assignment
abbrev pub BlockIsTurns : Type 0
BlockIsTurns =
    (body : List Stmt) (view : View) (here : Expr → Bool) (at : Places) (loops : List ℕ) (stored own : Set)
    (first more : ℕ) (s u : Run) → NamesPlaces here at own s.scalars loops → HavePlaces (in_block first (suc more)) at →
    body_apart stored own own here body ≡ true → ((x : ℕ) → loose_body own body x ≡ false) →
    turn (suc more) first 1 (λ v. run_list body view (loops ++ v ∷ [])) s ≡ Some u →
    BodyThere at (in_block first (suc more)) loops body (block_start view s)
    × IsRun view (block_body at (in_block first (suc more)) loops body (block_start view s)) (first + more) s u
