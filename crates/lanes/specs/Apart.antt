-- Loops whose turns are apart, and what a turn does.
use Rattle.std.specs.Prelude.{ℕ, ◌≡◌, zero, suc, ◌+◌, ◌≤◌, nat_lt, nat_le, if◌then◌else◌, unwrap_or, Bool, true, false, not, ◌&&◌, ◌||◌, ◌==◌, List, [], ◌∷◌, ◌++◌, Option, Some, None, option_and_then, option_map}
use Rattle.base.specs.declared.item.Cell.{Cell}
use Rattle.base.specs.declared.tree.Expr.{Expr}
use Rattle.base.specs.declared.tree.Expr.TheVariants.{Number, Scalar, LoopName, Cell', Unary', Binary', And', Or', Shift', Divide'}
use Rattle.base.specs.declared.tree.Source.{Source}
use Rattle.base.specs.declared.tree.Source.TheVariants.{Value, Read}
use Rattle.base.specs.declared.tree.Stmt.{Stmt, Row_of-Stmt, end_of-Stmt, more_of-Stmt}
use Rattle.base.specs.declared.tree.Stmt.TheVariants.{Declare, Assign, Store, Combine, Print, Block', Loop', If'}
use Rattle.base.specs.Memory.{View, Scalars, Stores, last_stored}
use Rattle.base.specs.Value.{Names, value, is_zero}
use Rattle.base.specs.Meaning.{Run, names_in, seen, set_scalar, turn, run_list}

-- a set of arrays or of scalars, by their numbers
abbrev pub Set : Type 0
Set = ℕ → Bool

-- whether an expression is the value of the loop at a level, and nothing else
abbrev pub is_turn : ℕ → Expr → Bool
is_turn level (Number n) = false
is_turn level (Scalar x) = false
is_turn level (LoopName l) = l == level
is_turn level (Cell' a place p e) = false
is_turn level (Unary' op p e) = false
is_turn level (Binary' op p e q f) = false
is_turn level (And' p e q f) = false
is_turn level (Or' p e q f) = false
is_turn level (Shift' op p e n) = false
is_turn level (Divide' op p e n) = false

-- where each turn has its cells: the index, and the turn of an index
pub record Places : Type 0 where
  pub place : ℕ → ℕ
  pub turn_of : ℕ → ℕ

-- each turn at the loop's own value
abbrev pub own_value_places : Places
own_value_places = record { place = λ v. v; turn_of = λ i. i }

-- scalars that are as before the turns, but for those that a turn assigns
abbrev pub Kept : Set → Scalars → Scalars → Type 0
Kept own before f = (x : ℕ) → own x ≡ false → f x ≡ before x

-- the index expressions of a set name, in each turn, its place, whatever the cells and the scalars of the turn are
abbrev pub NamesPlaces : (Expr → Bool) → Places → Set → Scalars → List ℕ → Type 0
NamesPlaces here at own before loops =
    (v : ℕ) (e : Expr) (names : Names) → names.loops ≡ loops ++ v ∷ [] → Kept own before names.scalars → here e ≡ true →
    value e names ≡ Some (at.place v)

-- as many turns, from this one on, have places of their own
abbrev pub OwnPlaces : Places → ℕ → ℕ → ℕ → Type 0
OwnPlaces at zero v step = Unit {0}
OwnPlaces at (suc n) v step = (at.turn_of (at.place v) ≡ v) × OwnPlaces at n (v + step) step

-- the turns of a set have places of their own, and no others have these places
pub record HavePlaces (inside : ℕ → Bool) (at : Places) : Type 0 where
  pub back : (v : ℕ) → inside v ≡ true → at.turn_of (at.place v) ≡ v
  pub forth : (i : ℕ) → inside (at.turn_of i) ≡ true → at.place (at.turn_of i) ≡ i

-- whether an expression names the stored arrays only by index expressions of a set, and no loose scalar
abbrev pub is_apart : Set → Set → (Expr → Bool) → Expr → Bool
is_apart stored loose here (Number n) = true
is_apart stored loose here (Scalar x) = not (loose x.0)
is_apart stored loose here (LoopName l) = true
is_apart stored loose here (Cell' a place p e) =
    (here e || not (stored a.0)) && is_apart stored loose here e
is_apart stored loose here (Unary' op p e) = is_apart stored loose here e
is_apart stored loose here (Binary' op p e q f) = is_apart stored loose here e && is_apart stored loose here f
is_apart stored loose here (And' p e q f) = is_apart stored loose here e && is_apart stored loose here f
is_apart stored loose here (Or' p e q f) = is_apart stored loose here e && is_apart stored loose here f
is_apart stored loose here (Shift' op p e n) = is_apart stored loose here e
is_apart stored loose here (Divide' op p e n) = is_apart stored loose here e

abbrev pub source_apart : Set → Set → (Expr → Bool) → Source → Bool
source_apart stored loose here (Value e) = is_apart stored loose here e
source_apart stored loose here Read = false

-- the scalars of the turn that are not yet assigned after a statement; a choice assigns none of them for certain
abbrev pub loose_after : Set → Stmt → Set
loose_after loose (Declare x v) y = not (x.0 == y) && loose y
loose_after loose (Assign x v) y = not (x.0 == y) && loose y
loose_after loose (Store a place e v) y = loose y
loose_after loose (Combine op c place e v) y = loose y
loose_after loose (Print e) y = loose y
loose_after loose (Block' shape all) y = loose y
loose_after loose (Loop' b shape all) y = loose y
loose_after loose (If' c shape all shape' all') y = loose y

abbrev mutual
  -- whether a statement is such, stores in the stored arrays only by such index expressions, and assigns scalars of
  -- the turn; of a choice, whether both branches are
  pub stmt_apart : Set → Set → Set → (Expr → Bool) → Stmt → Bool
  stmt_apart stored own loose here (Declare x v) = own x.0 && source_apart stored loose here v
  stmt_apart stored own loose here (Assign x v) = own x.0 && source_apart stored loose here v
  stmt_apart stored own loose here (Store a place e v) =
      stored a.0 && (here e && source_apart stored loose here v)
  stmt_apart stored own loose here (Combine op c place e v) = false
  stmt_apart stored own loose here (Print e) = false
  stmt_apart stored own loose here (Block' shape all) = false
  stmt_apart stored own loose here (Loop' b shape all) = false
  stmt_apart stored own loose here (If' c shape all shape' all') =
      is_apart stored loose here c && (row_apart stored own loose here all && row_apart stored own loose here all')

  pub row_apart : {m : _} → Set → Set → Set → (Expr → Bool) → Row_of-Stmt m → Bool
  row_apart stored own loose here end_of-Stmt = true
  row_apart stored own loose here (more_of-Stmt first rest) =
      stmt_apart stored own loose here first && row_apart stored own (loose_after loose first) here rest

abbrev pub body_apart : Set → Set → Set → (Expr → Bool) → List Stmt → Bool
body_apart stored own loose here [] = true
body_apart stored own loose here (first ∷ rest) =
    stmt_apart stored own loose here first && body_apart stored own (loose_after loose first) here rest

abbrev mutual
  -- the scalars that a statement assigns, in the branches of its choices too
  pub assigned_by : Stmt → Set
  assigned_by (Declare y v) x = y.0 == x
  assigned_by (Assign y v) x = y.0 == x
  assigned_by (Store a place e v) x = false
  assigned_by (Combine op c place e v) x = false
  assigned_by (Print e) x = false
  assigned_by (Block' shape all) x = false
  assigned_by (Loop' b shape all) x = false
  assigned_by (If' c shape all shape' all') x = row_assigned all x || row_assigned all' x

  pub row_assigned : {m : _} → Row_of-Stmt m → Set
  row_assigned end_of-Stmt x = false
  row_assigned (more_of-Stmt first rest) x = assigned_by first x || row_assigned rest x

abbrev pub assigned_in : List Stmt → Set
assigned_in [] x = false
assigned_in (first ∷ rest) x = assigned_by first x || assigned_in rest x

-- what a run adds: its stores in order, and what becomes of the scalars
pub record Delta : Type 0 where
  pub stores : Stores
  pub set : Scalars → Scalars

abbrev pub apply : Run → Delta → Run
apply s d = record s { stores = s.stores ++ d.stores; scalars = d.set s.scalars }

abbrev pub idle : Delta
idle = record { stores = []; set = λ f. f }

abbrev pub join : Delta → Delta → Delta
join d e = record { stores = d.stores ++ e.stores; set = λ f. e.set (d.set f) }

-- the value that is assigned; the input is not read here
abbrev pub own_value : Source → View → List ℕ → Run → Option ℕ
own_value (Value e) view loops s = value e (names_in view loops s)
own_value Read view loops s = None

abbrev pub setting : ℕ → ℕ → Delta
setting x n = record { stores = []; set = set_scalar x n }

abbrev pub storing : Cell → ℕ → Delta
storing c n = record { stores = (c, n) ∷ []; set = λ f. f }

-- a store in a cell, which has to be there
abbrev pub store_delta : View → Cell → Option ℕ → Option Delta
store_delta view c o = option_and_then (λ n. option_map (λ old. storing c n) (view c)) o

-- one delta, and what comes after it
abbrev pub join_all : Option Delta → (Delta → Option Delta) → Option Delta
join_all o f = option_and_then (λ d. option_map (join d) (f d)) o

-- the first of two at a number that is not 0, and else the second
abbrev pub chosen_delta : Option ℕ → Option Delta → Option Delta → Option Delta
chosen_delta None first second = None
chosen_delta (Some zero) first second = second
chosen_delta (Some (suc n)) first second = first

abbrev mutual
  -- what an assignment adds, or one of the branches of a choice
  pub stmt_delta : Stmt → View → List ℕ → Run → Option Delta
  stmt_delta (Declare x v) view loops s = option_map (setting x.0) (own_value v view loops s)
  stmt_delta (Assign x v) view loops s = option_map (setting x.0) (own_value v view loops s)
  stmt_delta (Store a place e v) view loops s =
      option_and_then (λ i. store_delta view (record { array = a; index = i }) (own_value v view loops s))
      (value e (names_in view loops s))
  stmt_delta (Combine op c place e v) view loops s = None
  stmt_delta (Print e) view loops s = None
  stmt_delta (Block' shape all) view loops s = None
  stmt_delta (Loop' b shape all) view loops s = None
  stmt_delta (If' c shape all shape' all') view loops s =
      chosen_delta (value c (names_in view loops s)) (row_delta all view loops s) (row_delta all' view loops s)

  pub row_delta : {m : _} → Row_of-Stmt m → View → List ℕ → Run → Option Delta
  row_delta end_of-Stmt view loops s = Some idle
  row_delta (more_of-Stmt first rest) view loops s =
      join_all (stmt_delta first view loops s) (λ d. row_delta rest view loops (apply s d))

abbrev pub body_delta : List Stmt → View → List ℕ → Run → Option Delta
body_delta [] view loops s = Some idle
body_delta (first ∷ rest) view loops s =
    join_all (stmt_delta first view loops s) (λ d. body_delta rest view loops (apply s d))

-- the deltas of as many turns
abbrev pub all_deltas : ℕ → ℕ → ℕ → (ℕ → Option Delta) → Option Delta
all_deltas zero v step f = Some idle
all_deltas (suc n) v step f = join_all (f v) (λ d. all_deltas n (v + step) step f)

-- each turn does what it does from where the first one begins
abbrev pub TurnsApart : Type 0
TurnsApart =
    (body : List Stmt) (view : View) (here : Expr → Bool) (at : Places) (loops : List ℕ) (stored own : Set)
    (n first step : ℕ) (s : Run) →
    1 ≤ step → NamesPlaces here at own s.scalars loops → OwnPlaces at n first step → body_apart stored own own here body ≡ true →
    turn n first step (λ v. run_list body view (loops ++ v ∷ [])) s
    ≡ option_map (apply s) (all_deltas n first step (λ v. body_delta body view (loops ++ v ∷ []) s))

-- as many turns, from this one on
abbrev pub in_block : ℕ → ℕ → ℕ → Bool
in_block first count v = nat_le first v && nat_lt v (first + count)

-- where a block of turns stands: the scalars of each turn, the cells, and those that were stored
pub record Block : Type 0 where
  pub scalars : ℕ → Scalars
  pub cells : View
  pub stored : View

-- what a turn's expressions see of a block
abbrev pub names_at : Block → List ℕ → ℕ → Names
names_at b loops v = record { scalars = b.scalars v; loops = loops ++ v ∷ []; cells = b.cells }

-- the number of each turn
abbrev pub numbers : Expr → Block → List ℕ → ℕ → ℕ
numbers e b loops v = unwrap_or (value e (names_at b loops v)) 0

-- a scalar of each turn of the block takes the turn's number
abbrev pub set_lanes : (ℕ → Bool) → ℕ → (ℕ → ℕ) → Block → Block
set_lanes inside x n b =
    record b { scalars = λ v. if inside v then set_scalar x (n v) (b.scalars v) else b.scalars v }

-- so do the cells of an array at the places of the turns of the block
abbrev pub with_lanes : Places → (ℕ → Bool) → ℕ → (ℕ → ℕ) → View → View
with_lanes at inside a n view c =
    if (a == c.array.0) && inside (at.turn_of c.index) then Some (n (at.turn_of c.index)) else view c

abbrev pub store_lanes : Places → (ℕ → Bool) → ℕ → (ℕ → ℕ) → Block → Block
store_lanes at inside a n b =
    record b { cells = with_lanes at inside a n b.cells; stored = with_lanes at inside a n b.stored }

-- of some turns of a block those in which the number of a condition is not 0, and those in which it is
abbrev pub where_true : (ℕ → Bool) → Expr → Block → List ℕ → ℕ → Bool
where_true inside c b loops v = inside v && not (is_zero (numbers c b loops v))

abbrev pub where_false : (ℕ → Bool) → Expr → Block → List ℕ → ℕ → Bool
where_false inside c b loops v = inside v && is_zero (numbers c b loops v)

abbrev mutual
  -- an assignment, for all turns of a block; a choice is its first branch for some of them, and then its second for
  -- the others
  pub block_stmt : Places → (ℕ → Bool) → List ℕ → Stmt → Block → Block
  block_stmt at inside loops (Declare x (Value e)) b = set_lanes inside x.0 (numbers e b loops) b
  block_stmt at inside loops (Declare x Read) b = b
  block_stmt at inside loops (Assign x (Value e)) b = set_lanes inside x.0 (numbers e b loops) b
  block_stmt at inside loops (Assign x Read) b = b
  block_stmt at inside loops (Store a place e (Value f)) b = store_lanes at inside a.0 (numbers f b loops) b
  block_stmt at inside loops (Store a place e Read) b = b
  block_stmt at inside loops (Combine op c place e v) b = b
  block_stmt at inside loops (Print e) b = b
  block_stmt at inside loops (Block' shape all) b = b
  block_stmt at inside loops (Loop' c shape all) b = b
  block_stmt at inside loops (If' c shape all shape' all') b =
      block_row at (where_false inside c b loops) loops all' (block_row at (where_true inside c b loops) loops all b)

  pub block_row : {m : _} → Places → (ℕ → Bool) → List ℕ → Row_of-Stmt m → Block → Block
  block_row at inside loops end_of-Stmt b = b
  block_row at inside loops (more_of-Stmt first rest) b =
      block_row at inside loops rest (block_stmt at inside loops first b)

-- each assignment in turn, for all turns of a block
abbrev pub block_body : Places → (ℕ → Bool) → List ℕ → List Stmt → Block → Block
block_body at inside loops [] b = b
block_body at inside loops (first ∷ rest) b = block_body at inside loops rest (block_stmt at inside loops first b)

-- a block before its first assignment
abbrev pub block_start : View → Run → Block
block_start view s =
    record { scalars = λ v. s.scalars; cells = seen view s.stores; stored = last_stored s.stores }

-- a block beside the runs of its turns, each from the same state: each turn has its scalars, and each cell is as the turn
-- of its index left it
pub record StandsFor (at : Places) (view : View) (b : Block) (lane : ℕ → Run) : Type 0 where
  pub scalars : (v x : ℕ) → b.scalars v x ≡ (lane v).scalars x
  pub cells : (c : Cell) → b.cells c ≡ seen view (lane (at.turn_of c.index)).stores c
  pub stored : (c : Cell) → b.stored c ≡ last_stored (lane (at.turn_of c.index)).stores c

-- the turns of a block run alone, the others do nothing
pub record RunAlone (inside : ℕ → Bool) (run : ℕ → Run → Option Run) (lane end : ℕ → Run) : Type 0 where
  pub there : (v : ℕ) → inside v ≡ true → run v (lane v) ≡ Some (end v)
  pub elsewhere : (v : ℕ) → inside v ≡ false → end v ≡ lane v

-- what is done assignment by assignment is what each turn does alone
abbrev pub ByAssignments : Type 0
ByAssignments =
    (body : List Stmt) (view : View) (here : Expr → Bool) (at : Places) (loops : List ℕ) (stored own : Set)
    (inside : ℕ → Bool) (s : Run) (end : ℕ → Run) →
    NamesPlaces here at own s.scalars loops → HavePlaces inside at → body_apart stored own own here body ≡ true →
    RunAlone inside (λ v. run_list body view (loops ++ v ∷ [])) (λ v. s) end →
    StandsFor at view (block_body at inside loops body (block_start view s)) end

-- the scalars of the turn that are not yet assigned at the end of a body
abbrev pub loose_body : Set → List Stmt → Set
loose_body loose [] x = loose x
loose_body loose (first ∷ rest) x = loose_body (loose_after loose first) rest x
