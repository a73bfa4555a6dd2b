-- How the turns of a loop are done in blocks: its statements for all turns, and behind them a scalar that is carried on.
use Rattle.std.specs.Prelude.{ℕ, ◌≡◌, ◌+◌, ◌<◌, Bool, false, List, Option, Some, None, length, slice_index}
use Rattle.base.specs.declared.tree.Expr.{Expr}
use Rattle.base.specs.declared.tree.Source.TheVariants.{Value}
use Rattle.base.specs.declared.tree.Stmt.{Stmt}
use Rattle.base.specs.declared.tree.Stmt.TheVariants.{Assign}
use Rattle.base.specs.Memory.{Scalars}
use Rattle.base.specs.Value.{binary, value}
use Rattle.lanes.specs.Apart.{Block, assigned_in, block_body, in_block, names_at}
use Rattle.lanes.specs.Sums.{CarriesOn, ended, folded, summed}
use Rattle.kernel.specs.Loops.{AreApart}
use Rattle.kernel.specs.Offsets.{here_of, places_of}
use Rattle.kernel.specs.declared.turns.Form.{Form}
use Rattle.kernel.specs.declared.turns.Sum.{Sum}

-- a statement makes a scalar of itself and of an expression
pub record IsCarriedBy (s : Stmt) (sum : Sum) : Type 0 where
  pub last : Expr
  pub is : s ≡ Assign sum.scalar (Value last)
  pub carries : CarriesOn (binary sum.op) sum.scalar sum.added.now last

-- the last statement of a body is such a one
pub record HasSum (body front : List Stmt) (sum : Sum) : Type 0 where
  pub last : Expr
  pub whole : body ≡ ended front sum.scalar last
  pub carries : CarriesOn (binary sum.op) sum.scalar sum.added.now last

-- no other statement names the scalar, and the turns are apart where they assign it what is added
pub record IsSum (here : Expr → Bool) (body front : List Stmt) (s : Sum) : Type 0 where
  pub has : HasSum body front s
  pub apart : AreApart here (ended front s.scalar s.added.now)
  pub once : assigned_in front s.scalar.0 ≡ false

abbrev pub IsFormOf : (Expr → Bool) → List Stmt → List Stmt → Option Sum → Type 0
IsFormOf here body front None = (front ≡ body) × AreApart here body
IsFormOf here body front (Some s) = IsSum here body front s

-- a body can be done so in turns that begin with these scalars, in these loops
abbrev pub IsForm : Scalars → List ℕ → List Stmt → Form → Type 0
IsForm before outer body f = IsFormOf (here_of (assigned_in body) before outer f.offset) body f.front.now f.sum

-- the statements that are done for all turns of a block, with the assignment of what is added
abbrev pub with_sum : List Stmt → Option Sum → List Stmt
with_sum front None = front
with_sum front (Some s) = ended front s.scalar s.added.now

abbrev pub statements : Form → List Stmt
statements f = with_sum f.front.now f.sum

-- a block with the number that its turns carry on from these scalars
abbrev pub carried : Option Sum → Scalars → ℕ → ℕ → Block → Block
carried None before first count b = b
carried (Some s) before first count b = summed (binary s.op) s.scalar.0 (before s.scalar.0) count first b

-- what some turns from these scalars make of a block
abbrev pub form_block : Form → List ℕ → ℕ → ℕ → Scalars → Block → Block
form_block f outer first count before b =
    carried f.sum before first count (block_body (places_of f.offset) (in_block first count) outer (statements f) b)

-- what turns of a block carry on: from the scalar before them, over the numbers of what is added
pub record IsCarriedOn (first count : ℕ) (outer before : List ℕ) (b : Block) (s : Sum) (n : ℕ) : Type 0 where
  pub numbers : List ℕ
  pub size : length numbers ≡ count
  pub each : (k : ℕ) → k < count → value s.added.now (names_at b outer (first + k)) ≡ Some (slice_index numbers k)
  pub is : n ≡ folded (binary s.op) (slice_index numbers) (slice_index before s.scalar.0) (length numbers) 0
