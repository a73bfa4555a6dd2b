-- What is left of an open item, action by action: each load, each store, each copied cell and each action on the table
-- comes by itself.
use Rattle.std.specs.Prelude.{ℕ, zero, suc, ◌+◌, ◌%◌, Bool, true, false, not, List, [], ◌∷◌, ◌++◌, map, Option, Some, None, slice_index, if◌then◌else◌, option_map}
use Rattle.base.specs.declared.tree.ArrayId.{ArrayId}
use Rattle.base.specs.declared.tree.CombineOp.{CombineOp}
use Rattle.base.specs.declared.tree.Expr.{Expr}
use Rattle.base.specs.declared.tree.Expr.TheVariants.{Number, Scalar, LoopName, Cell', Unary', Binary', And', Or', Shift', Divide'}
use Rattle.base.specs.declared.tree.Source.{Source}
use Rattle.base.specs.declared.tree.Source.TheVariants.{Value, Read}
use Rattle.base.specs.declared.tree.Stmt.{Stmt, Row_of-Stmt, end_of-Stmt, more_of-Stmt}
use Rattle.base.specs.declared.tree.Stmt.TheVariants as stmt
use Rattle.base.specs.declared.tree.Region.{Region}
use Rattle.base.specs.declared.item.Cell.{Cell}
use Rattle.base.specs.declared.item.Section.{Section}
use Rattle.base.specs.declared.item.MapItem.{MapItem}
use Rattle.base.specs.declared.item.ItemKind.{ItemKind}
use Rattle.base.specs.declared.item.ItemKind.TheVariants as kind
use Rattle.base.specs.Memory.{Scalars}
use Rattle.base.specs.Value.{modulus, flag, is_zero, unary, binary, shifted, divided}
use Rattle.base.specs.Meaning.{Run as Region_run, turns_of, read_next, set_scalar, printed}
use Rattle.base.specs.Items.{Work}
use Rattle.base.specs.Turns.{Turn, turns_at}
use Rattle.base.specs.Map.{Block, Presence, Absent, Inside, InPart, presence, copies_to, copies_from}

-- the memory on which a region works
pub data Side : Type 0 where
  OnHost : Side
  OnDevice : Side

-- a single action on the memories
pub data Request : Type 0 where
  Load : (side : Side) (cell : Cell) → Request
  Store : (side : Side) (cell : Cell) (number : ℕ) → Request
  -- a cell takes what the operator makes of its number and this one: at once, with nothing in between
  Combine : (side : Side) (op : CombineOp) (cell : Cell) (number : ℕ) → Request
  -- an entry's action on the table: creation and count; an exit's: the count; and the removal
  Enter : (item : MapItem) → Request
  Leave : (item : MapItem) → Request
  Remove : (section : Section) → Request
  -- a cell takes the value that it has on the other side
  CopyIn : (cell : Cell) → Request
  CopyOut : (cell : Cell) → Request

-- what an action gives: the number that was loaded; whether an entry or an exit copies, and whether the exit removes
pub record Answer : Type 0 where
  pub number : ℕ
  pub copies : Bool
  pub removes : Bool

-- either the item can be closed, its region being done so; or an action comes next, and then what follows from its
-- answer
pub data Left : Type 0 where
  Finished : (run : Region_run) → Left
  Asks : (request : Request) (after : Answer → Left) → Left

-- the value of an expression, load by load, and then what follows from it
abbrev pub expr_left : Expr → Side → List ℕ → Scalars → (ℕ → Left) → Left
expr_left (Number n) side loops scalars k = k (n % modulus)
expr_left (Scalar x) side loops scalars k = k (scalars x.0)
expr_left (LoopName level) side loops scalars k = k (slice_index loops level)
expr_left (Cell' a place p e) side loops scalars k =
    expr_left e side loops scalars (λ i. Asks (Load side (record { array = a; index = i })) (λ r. k r.number))
expr_left (Unary' op p a) side loops scalars k = expr_left a side loops scalars (λ m. k (unary op m))
expr_left (Binary' op p a q b) side loops scalars k =
    expr_left a side loops scalars (λ m. expr_left b side loops scalars (λ n. k (binary op m n)))
expr_left (And' p a q b) side loops scalars k =
    expr_left a side loops scalars
    (λ m. elim m [ zero ↦ k 0 | suc m' ↦ expr_left b side loops scalars (λ n. k (flag (not (is_zero n)))) ])
expr_left (Or' p a q b) side loops scalars k =
    expr_left a side loops scalars
    (λ m. elim m [ zero ↦ expr_left b side loops scalars (λ n. k (flag (not (is_zero n)))) | suc m' ↦ k 1 ])
expr_left (Shift' op p a n) side loops scalars k = expr_left a side loops scalars (λ m. k (shifted op m n.count))
expr_left (Divide' op p a n) side loops scalars k = expr_left a side loops scalars (λ m. k (divided op m n.value))

abbrev pub source_left : Source → Side → List ℕ → Region_run → (ℕ → Region_run → Left) → Left
source_left (Value e) side loops s k = expr_left e side loops s.scalars (λ n. k n s)
source_left Read side loops s k = k (read_next s).0 (read_next s).1

abbrev pub assigned : ℕ → ℕ → Region_run → Region_run
assigned x n s = record s { scalars = set_scalar x n s.scalars }

-- as many turns, one after another
abbrev pub turns_left :
    ℕ → ℕ → ℕ → (ℕ → Region_run → (Region_run → Left) → Left) → Region_run → (Region_run → Left) → Left
turns_left zero v step body s k = k s
turns_left (suc n) v step body s k = body v s (λ t. turns_left n (v + step) step body t k)

abbrev mutual
  -- a statement, access by access, and then what follows
  pub stmt_left : Stmt → Side → List ℕ → Region_run → (Region_run → Left) → Left
  stmt_left (stmt.Declare x v) side loops s k = source_left v side loops s (λ n t. k (assigned x.0 n t))
  stmt_left (stmt.Assign x v) side loops s k = source_left v side loops s (λ n t. k (assigned x.0 n t))
  stmt_left (stmt.Store a place e v) side loops s k =
      expr_left e side loops s.scalars
      (λ i. source_left v side loops s (λ n t. Asks (Store side (record { array = a; index = i }) n) (λ r. k t)))
  stmt_left (stmt.Combine op a place e v) side loops s k =
      expr_left e side loops s.scalars
      (λ i. expr_left v side loops s.scalars
      (λ n. Asks (Combine side op (record { array = a; index = i }) n) (λ r. k s)))
  stmt_left (stmt.Print e) side loops s k = expr_left e side loops s.scalars (λ n. k (printed s n))
  stmt_left (stmt.Block' shape all) side loops s k = row_left all side loops s k
  stmt_left (stmt.Loop' b shape all) side loops s k =
      turns_left (turns_of b) b.first b.step (λ v. row_left all side (loops ++ v ∷ [])) s k
  stmt_left (stmt.If' c shape all shape' all') side loops s k =
      expr_left c side loops s.scalars
      (λ n. elim n [ zero ↦ row_left all' side loops s k | suc m ↦ row_left all side loops s k ])

  pub row_left : {m : _} → Row_of-Stmt m → Side → List ℕ → Region_run → (Region_run → Left) → Left
  row_left end_of-Stmt side loops s k = k s
  row_left (more_of-Stmt first rest) side loops s k = stmt_left first side loops s (λ t. row_left rest side loops t k)

abbrev pub list_left : List Stmt → Side → List ℕ → Region_run → (Region_run → Left) → Left
list_left [] side loops s k = k s
list_left (first ∷ rest) side loops s k = stmt_left first side loops s (λ t. list_left rest side loops t k)

abbrev pub region_left : Option Region → Side → List ℕ → Region_run → (Region_run → Left) → Left
region_left None side loops s k = k s
region_left (Some r) side loops s k = list_left r.body.items side loops s k

-- Turns that may run in any order.

-- all that is left of one, and then another
abbrev pub then_left : Left → Left → Left
then_left (Finished t) after = after
then_left (Asks r k) after = Asks r (λ a. then_left (k a) after)

-- one after the other
abbrev pub in_order : List Left → Left → Left
in_order [] after = after
in_order (l ∷ rest) after = then_left l (in_order rest after)

-- how many of them have an action to do
abbrev pub waiting : List Left → ℕ
waiting [] = 0
waiting (Finished t ∷ rest) = waiting rest
waiting (Asks r k ∷ rest) = waiting rest + 1

-- the action that is next in the n-th of those that have one, and then what follows from what is left of all; where fewer
-- have one, something else
abbrev pub act_of : ℕ → List Left → (List Left → Left) → Left → Left
act_of n [] follow other = other
act_of n (Finished t ∷ rest) follow other = act_of n rest (λ ls. follow (Finished t ∷ ls)) other
act_of zero (Asks r k ∷ rest) follow other = Asks r (λ a. follow (k a ∷ rest))
act_of (suc n) (Asks r k ∷ rest) follow other = act_of n rest (λ ls. follow (Asks r k ∷ ls)) other

-- each number of the order picks, of those that have an action to do, the one that does it. Where the order is used up,
-- or none has one, what is left goes one after the other
abbrev pub together : List ℕ → List Left → Left → Left
together [] lefts after = in_order lefts after
together (n ∷ order) lefts after =
    act_of (n % waiting lefts) lefts (λ ls. together order ls after) (in_order lefts after)

-- what is left of one turn of a kernel, which begins where the region does and comes to its own end
abbrev pub turn_left : Region_run → Turn → Left
turn_left s t = list_left t.body OnDevice t.loops s Finished

-- a kernel whose turns may run in any order: what comes after it goes on from where the region began, since a kernel's
-- scalars are its own
abbrev pub unordered_left : List ℕ → ℕ → List Stmt → List ℕ → Region_run → (Region_run → Left) → Left
unordered_left order depth body loops s k = together order (map (turn_left s) (turns_at depth body loops)) (k s)

-- a kernel, by the depth to which its turns may run in any order
abbrev pub kernel_left : List ℕ → Option Region → List ℕ → Region_run → (Region_run → Left) → Left
kernel_left order None loops s k = k s
kernel_left order (Some r) loops s k = by r.depth
  where
    by : ℕ → Left
    by zero = list_left r.body.items OnDevice loops s k
    by (suc d) = unordered_left order (suc d) r.body.items loops s k

-- an action on each of a section's cells, in ascending order
abbrev pub cells_left : (Cell → Request) → ArrayId → ℕ → ℕ → (Unit {0} → Left) → Left
cells_left ask a first zero k = k tt
cells_left ask a first (suc n) k =
    Asks (ask (record { array = a; index = first })) (λ r. cells_left ask a (first + 1) n k)

abbrev pub section_left : (Cell → Request) → Section → (Unit {0} → Left) → Left
section_left ask s k = cells_left ask s.array s.first s.length k

abbrev pub left_if : Bool → ((Unit {0} → Left) → Left) → (Unit {0} → Left) → Left
left_if true first k = first k
left_if false first k = k tt

abbrev pub entry_left : MapItem → (Unit {0} → Left) → Left
entry_left item k = Asks (Enter item) (λ r. left_if r.copies (section_left CopyIn item.section) k)

abbrev pub exit_left : MapItem → (Unit {0} → Left) → Left
exit_left item k =
    Asks (Leave item)
    (λ r. left_if r.copies (section_left CopyOut item.section)
    (λ u. left_if r.removes (λ l. Asks (Remove item.section) (λ r. l tt)) k))

-- a section of an update, where it has storage
abbrev pub update_left : MapItem → (Unit {0} → Left) → Left
update_left item k =
    left_if (copies_to item.kind) (section_left CopyIn item.section)
    (λ u. left_if (copies_from item.kind) (section_left CopyOut item.section) k)

abbrev pub each_left : (MapItem → (Unit {0} → Left) → Left) → List MapItem → (Unit {0} → Left) → Left
each_left f [] k = k tt
each_left f (item ∷ rest) k = f item (λ u. each_left f rest k)

-- the sections of an update that have storage, or none where one overlaps a block in part, or is absent and to be present
abbrev pub present_of : List Block → List MapItem → Option (List MapItem)
present_of blocks [] = Some []
present_of blocks (item ∷ rest) = at (presence blocks item.section) (present_of blocks rest)
  where
    at : Presence → Option (List MapItem) → Option (List MapItem)
    at Absent o = if item.present then None else o
    at (Inside b) o = option_map (λ xs. item ∷ xs) o
    at InPart o = None

-- what is left of an item that is opened, or none where it fails; by the order of its turns
abbrev pub item_left : List ℕ → Work → List Block → Region_run → Option Left
item_left order w blocks s = at w.kind
  where
    at : ItemKind → Option Left
    at kind.Host = Some (region_left w.region OnHost w.loops s Finished)
    at kind.Target =
        Some (each_left entry_left w.maps
        (λ u. kernel_left order w.region w.loops s (λ t. each_left exit_left w.maps (λ u. Finished t))))
    at kind.Begin = Some (each_left entry_left w.maps (λ u. Finished s))
    at kind.Enter = Some (each_left entry_left w.maps (λ u. Finished s))
    at kind.End = Some (each_left exit_left w.maps (λ u. Finished s))
    at kind.Exit = Some (each_left exit_left w.maps (λ u. Finished s))
    at kind.Update = option_map (λ present. each_left update_left present (λ u. Finished s)) (present_of blocks w.maps)
    at kind.Wait = Some (Finished s)
