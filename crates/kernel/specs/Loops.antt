-- A loop whose turns are done in blocks.
use Rattle.std.specs.Prelude.{ℕ, ◌≡◌, ◌-◌, ◌==◌, Bool, true, false, not, ◌&&◌, ◌||◌, List, [], ◌∷◌, ◌++◌, Option, Some, IsSome, slice_index}
use Rattle.base.specs.declared.tree.Stmt.{Stmt, Row_of-Stmt, end_of-Stmt, more_of-Stmt}
use Rattle.base.specs.declared.tree.Stmt.TheVariants.{Declare, Assign, Store, Combine, Print, Block', Loop', If'}
use Rattle.base.specs.Memory.{View, last_stored}
use Rattle.base.specs.Meaning.{Run, seen, turn, run_list}
use Rattle.base.specs.declared.tree.Expr.{Expr}
use Rattle.lanes.specs.Apart.{Set, assigned_by, assigned_in, body_apart, stmt_apart}
use Rattle.kernel.specs.Rows.{cells_kept, parts_stored}
use Rattle.kernel.specs.Rows.{Parts}

abbrev mutual
  -- the arrays that a statement stores, in the branches of its choices too
  pub stored_by : Stmt → Set
  stored_by (Declare y v) a = false
  stored_by (Assign y v) a = false
  stored_by (Store b place e v) a = b.0 == a
  stored_by (Combine op b place e v) a = b.0 == a
  stored_by (Print e) a = false
  stored_by (Block' shape all) a = false
  stored_by (Loop' b shape all) a = false
  stored_by (If' c shape all shape' all') a = row_stored all a || row_stored all' a

  pub row_stored : {m : _} → Row_of-Stmt m → Set
  row_stored end_of-Stmt a = false
  row_stored (more_of-Stmt first rest) a = stored_by first a || row_stored rest a

abbrev pub stored_in : List Stmt → Set
stored_in [] a = false
stored_in (first ∷ rest) a = stored_by first a || stored_in rest a

-- the scalars that statements assign for certain, and not in the branches of a choice alone
abbrev pub certain_by : Stmt → Set
certain_by (Declare y v) x = y.0 == x
certain_by (Assign y v) x = y.0 == x
certain_by (Store a place e v) x = false
certain_by (Combine op a place e v) x = false
certain_by (Print e) x = false
certain_by (Block' shape all) x = false
certain_by (Loop' b shape all) x = false
certain_by (If' c shape all shape' all') x = false

abbrev pub certain_in : List Stmt → Set
certain_in [] x = false
certain_in (first ∷ rest) x = certain_by first x || certain_in rest x

-- the scalars of a body that the statements before do not assign for certain
abbrev pub loose_in : List Stmt → List Stmt → Set
loose_in body before x = assigned_in body x && not (certain_in before x)

-- a statement of a body, or each of some statements, is such as turns that are apart have, where these scalars are loose
abbrev pub IsApartFor : (Expr → Bool) → List Stmt → Set → Stmt → Type 0
IsApartFor here body loose s = stmt_apart (stored_in body) (assigned_in body) loose here s ≡ true

abbrev pub AreApartFor : (Expr → Bool) → List Stmt → Set → List Stmt → Type 0
AreApartFor here body loose some = body_apart (stored_in body) (assigned_in body) loose here some ≡ true

-- each scalar that a statement assigns is assigned for certain by a body
abbrev pub IsSettled : List Stmt → Stmt → Type 0
IsSettled body s = (x : ℕ) → assigned_by s x ≡ true → certain_in body x ≡ true

-- each scalar that some statements assign is assigned for certain by a body
abbrev pub AreSettled : List Stmt → List Stmt → Type 0
AreSettled body some = (x : ℕ) → assigned_in some x ≡ true → certain_in body x ≡ true

-- the turns of a loop with this body, which store at index expressions of this set, are apart, and the last one leaves the
-- scalars
pub record AreApart (here : Expr → Bool) (body : List Stmt) : Type 0 where
  pub apart : AreApartFor here body (assigned_in body) body
  pub settled : AreSettled body body

-- what a turn does
abbrev pub does : View → List ℕ → List Stmt → ℕ → Run → Option Run
does view outer body v = run_list body view (outer ++ v ∷ [])

-- the scalars and the rows are those of a run on a view
pub record Stands (view : View) (s : Run) (numbers : List ℕ) (rows : List Parts) : Type 0 where
  pub scalars : slice_index numbers ≡ s.scalars
  pub cells : cells_kept rows ≡ seen view s.stores
  pub stored : parts_stored rows ≡ last_stored s.stores

-- the turns up to an end have a meaning from there on
abbrev pub Begins : List Stmt → List ℕ → ℕ → ℕ → List ℕ → List Parts → Type 0
Begins body outer first end scalars rows =
    (view : View) × (s : Run) × Stands view s scalars rows × IsSome (turn (end - first) first 1 (does view outer body) s)

-- and this is where they lead
abbrev pub Ends : List Stmt → List ℕ → ℕ → ℕ → List ℕ → List Parts → List ℕ → List Parts → Type 0
Ends body outer first end scalars rows scalars' rows' =
    (view : View) (s t : Run) → Stands view s scalars rows →
    turn (end - first) first 1 (does view outer body) s ≡ Some t →
    Stands view t scalars' rows' × (s.input ≡ t.input) × (s.printed ≡ t.printed)
