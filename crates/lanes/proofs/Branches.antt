-- The statements of a branch, which stand in a row, as a list; and how a property of statements is shown that holds of
-- a choice where it holds of the statements in its branches.
use Rattle.std.proofs.Common.{◌≡◌, ℕ, Bool, List, [], ◌∷◌, Option, Some, None, refl, ap}
use Rattle.std.specs.Prelude.{◌&&◌, ◌||◌, option_and_then, option_map}
use mathlib.Core.Former.{Count}
use Rattle.base.specs.declared.tree.Expr.{Expr}
use Rattle.base.specs.declared.tree.Stmt.{Stmt, Row_of-Stmt, end_of-Stmt, more_of-Stmt, items-the_row-Stmt}
use Rattle.base.specs.declared.tree.Stmt.TheVariants.{Declare, Assign, Store, Combine, Print, Block', Loop', If'}
use Rattle.base.specs.Memory.{View}
use Rattle.base.specs.Meaning.{Run, run_stmt, run_row, run_list}
use Rattle.lanes.specs.Apart.{Set, Places, stmt_apart, row_apart, body_apart, loose_after, assigned_by, row_assigned, assigned_in, Delta, apply, join, join_all, stmt_delta, row_delta, body_delta, Block, block_stmt, block_row, block_body}
use Rattle.lanes.specs.There.{RowThere, BodyThere}

abbrev pub items : {n : Count} → Row_of-Stmt n → List Stmt
items {n} row = items-the_row-Stmt n row

pub and_then_same : {A B : Type 0} (f g : A → Option B) (o : Option A) → ((t : A) → f t ≡ g t) →
    option_and_then f o ≡ option_and_then g o
and_then_same f g None h = refl
and_then_same f g (Some t) h = h t

pub join_all_same : (f g : Delta → Option Delta) (o : Option Delta) → ((d : Delta) → f d ≡ g d) →
    join_all o f ≡ join_all o g
join_all_same f g o h = and_then_same _ _ o (λ d. ap (option_map (join d)) (h d))

pub run_items : (n : Count) (row : Row_of-Stmt n) (view : View) (loops : List ℕ) (s : Run) →
    run_row row view loops s ≡ run_list (items row) view loops s
run_items n end_of-Stmt view loops s = refl
run_items n (more_of-Stmt first rest) view loops s =
    and_then_same (run_row rest view loops) (run_list (items rest) view loops) (run_stmt first view loops s)
    (λ t. run_items _ rest view loops t)

pub apart_items : (n : Count) (row : Row_of-Stmt n) (stored own loose : Set) (here : Expr → Bool) →
    row_apart stored own loose here row ≡ body_apart stored own loose here (items row)
apart_items n end_of-Stmt stored own loose here = refl
apart_items n (more_of-Stmt first rest) stored own loose here =
    ap (λ b. stmt_apart stored own loose here first && b)
    (apart_items _ rest stored own (loose_after loose first) here)

pub assigned_items : (n : Count) (row : Row_of-Stmt n) (x : ℕ) → row_assigned row x ≡ assigned_in (items row) x
assigned_items n end_of-Stmt x = refl
assigned_items n (more_of-Stmt first rest) x = ap (λ b. assigned_by first x || b) (assigned_items _ rest x)

pub delta_items : (n : Count) (row : Row_of-Stmt n) (view : View) (loops : List ℕ) (s : Run) →
    row_delta row view loops s ≡ body_delta (items row) view loops s
delta_items n end_of-Stmt view loops s = refl
delta_items n (more_of-Stmt first rest) view loops s =
    join_all_same (λ d. row_delta rest view loops (apply s d)) (λ d. body_delta (items rest) view loops (apply s d))
    (stmt_delta first view loops s) (λ d. delta_items _ rest view loops (apply s d))

pub block_items : (n : Count) (row : Row_of-Stmt n) (at : Places) (inside : ℕ → Bool) (loops : List ℕ) (b : Block) →
    block_row at inside loops row b ≡ block_body at inside loops (items row) b
block_items n end_of-Stmt at inside loops b = refl
block_items n (more_of-Stmt first rest) at inside loops b =
    block_items _ rest at inside loops (block_stmt at inside loops first b)

pub there_items : (n : Count) (row : Row_of-Stmt n) (at : Places) (inside : ℕ → Bool) (loops : List ℕ) (b : Block) →
    BodyThere at inside loops (items row) b → RowThere at inside loops row b
there_items n end_of-Stmt at inside loops b h = tt
there_items n (more_of-Stmt first rest) at inside loops b h =
    (h.0, there_items _ rest at inside loops (block_stmt at inside loops first b) h.1)

pub items_there : (n : Count) (row : Row_of-Stmt n) (at : Places) (inside : ℕ → Bool) (loops : List ℕ) (b : Block) →
    RowThere at inside loops row b → BodyThere at inside loops (items row) b
items_there n end_of-Stmt at inside loops b h = tt
items_there n (more_of-Stmt first rest) at inside loops b h =
    (h.0, items_there _ rest at inside loops (block_stmt at inside loops first b) h.1)

module _ (P : Stmt → Type 0) where
  -- it holds of each of some statements
  abbrev pub AllOf : List Stmt → Type 0
  AllOf [] = Unit {0}
  AllOf (first ∷ rest) = P first × AllOf rest

  -- it holds of each statement in the branches of a choice
  abbrev pub OfBranches : Stmt → Type 0
  OfBranches (Declare x v) = Unit {0}
  OfBranches (Assign x v) = Unit {0}
  OfBranches (Store a place e v) = Unit {0}
  OfBranches (Combine op c place e v) = Unit {0}
  OfBranches (Print e) = Unit {0}
  OfBranches (Block' shape all) = Unit {0}
  OfBranches (Loop' b shape all) = Unit {0}
  OfBranches (If' c shape all shape' all') = AllOf (items all) × AllOf (items all')

  module _ (step : (first : Stmt) → OfBranches first → P first) where
    mutual
      pub of_stmt : (first : Stmt) → P first
      of_stmt (Declare x v) = step (Declare x v) tt
      of_stmt (Assign x v) = step (Assign x v) tt
      of_stmt (Store a place e v) = step (Store a place e v) tt
      of_stmt (Combine op c place e v) = step (Combine op c place e v) tt
      of_stmt (Print e) = step (Print e) tt
      of_stmt (Block' shape all) = step (Block' shape all) tt
      of_stmt (Loop' b shape all) = step (Loop' b shape all) tt
      of_stmt (If' c shape all shape' all') = step (If' c shape all shape' all') (of_row _ all, of_row _ all')

      pub of_row : (n : Count) (row : Row_of-Stmt n) → AllOf (items row)
      of_row n end_of-Stmt = tt
      of_row n (more_of-Stmt first rest) = (of_stmt first, of_row _ rest)

    pub of_body : (body : List Stmt) → AllOf body
    of_body [] = tt
    of_body (first ∷ rest) = (of_stmt first, of_body rest)
