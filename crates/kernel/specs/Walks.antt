-- What a machine does that goes over the statements of a region.
use Rattle.std.specs.Prelude.{ℕ, ◌≡◌, List, [], ◌∷◌, ◌++◌, Option, Some, IsSome, option_and_then, option_map}
use Rattle.base.specs.declared.tree.ArrayId.{ArrayId}
use Rattle.base.specs.declared.tree.Bounds.{Bounds}
use Rattle.base.specs.declared.tree.Expr.{Expr}
use Rattle.base.specs.declared.tree.ScalarId.{ScalarId}
use Rattle.base.specs.declared.tree.Source.{Source}
use Rattle.base.specs.declared.tree.Stmt.{Stmt}
use Rattle.base.specs.Memory.{View}
use Rattle.base.specs.Meaning.{Run, all_turns, assigned, choose, names_in, printed, run_list, run_stmt, source_of, stored}
use Rattle.base.specs.Value.{value}
use Rattle.kernel.specs.Loops.{Stands, does}
use Rattle.kernel.specs.Machine.{cell_of}
use Rattle.kernel.specs.declared.state.Machine.{Machine}

-- what is done on a view in some loops
abbrev pub Meaning : Type 0
Meaning = View → List ℕ → Run → Option Run

-- of a statement, of statements, of a loop and of a turn of it, and of a choice
abbrev pub stmt_meaning : Stmt → Meaning
stmt_meaning s view loops = run_stmt s view loops

abbrev pub list_meaning : List Stmt → Meaning
list_meaning all view loops = run_list all view loops

abbrev pub loop_meaning : Bounds → List Stmt → Meaning
loop_meaning b body view loops = all_turns b (does view loops body)

abbrev pub turn_meaning : ℕ → List Stmt → Meaning
turn_meaning v body view loops = run_list body view (loops ++ v ∷ [])

abbrev pub choice_meaning : Expr → List Stmt → List Stmt → Meaning
choice_meaning c first second view loops s =
    choose (value c (names_in view loops s)) (run_list first view loops) (run_list second view loops) s

-- of an assignment, of a store and of a print
abbrev pub assign_meaning : ScalarId → Source → Meaning
assign_meaning x v view loops s = assigned x.0 (source_of v view loops s)

abbrev pub store_meaning : ArrayId → Expr → Source → Meaning
store_meaning a e v view loops s =
    option_and_then (λ i. stored view (cell_of a i) (source_of v view loops s)) (value e (names_in view loops s))

abbrev pub print_meaning : Expr → Meaning
print_meaning e view loops s = option_map (printed s) (value e (names_in view loops s))

-- the machine stands where a run does
pub record At (view : View) (s : Run) (m : Machine) : Type 0 where
  pub stands : Stands view s m.scalars.value m.rows.items
  pub input : m.input.now ≡ s.input
  pub printed : m.printed.items ≡ s.printed

-- it has a meaning from where the machine stands
abbrev pub CanDo : Meaning → Machine → Type 0
CanDo f m = (view : View) × (s : Run) × At view s m × IsSome (f view m.loops.items s)

-- the machine has done it, and stands in the same loops
abbrev pub HasDone : Meaning → Machine → Machine → Type 0
HasDone f m m' =
    (m'.loops.items ≡ m.loops.items)
    × ((view : View) (s t : Run) → At view s m → f view m.loops.items s ≡ Some t → At view t m')

-- what is assigned has a value where the machine stands
abbrev pub CanGive : Source → Machine → Type 0
CanGive v m = (view : View) × (s : Run) × At view s m × IsSome (source_of v view m.loops.items s)

-- this number is the value, and the machine is past what of the input it takes
abbrev pub HasGiven : Source → ℕ → Machine → Machine → Type 0
HasGiven v n m m' =
    (m'.loops.items ≡ m.loops.items)
    × ((view : View) (s : Run) (q : ℕ × Run) → At view s m → source_of v view m.loops.items s ≡ Some q →
    (q.0 ≡ n) × At view q.1 m')
