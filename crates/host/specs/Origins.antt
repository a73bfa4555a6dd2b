-- What a run was started with.
use Rattle.std.specs.Prelude.{◌≡◌, ℕ, List, [], Option, Some, refl}
use Rattle.std.specs.Coded.{Coded, Coded-set, code_by, coded×, coded_ℕ, coded_list, coded_option}
use Rattle.atomic_table.specs.Seated.{TableId}
use Rattle.base.specs.contracts.tree.Program as program_code
use Rattle.base.specs.declared.tree.Program.{Program}
use Rattle.device.specs.Run.{Run}

-- the program, its whole input, and how many cells each device has room for
pub record Start : Type 0 where
  pub program : Program
  pub input : List ℕ
  pub capacity : ℕ

abbrev pub start_of : Run → Start
start_of r = record { program = r.program; input = r.input; capacity = r.capacity }

-- the run was started so
abbrev pub IsFrom : Option Start → Run → Type 0
IsFrom o r = o ≡ Some (start_of r)

-- the run is of this program
abbrev pub IsOf : Program → Run → Type 0
IsOf p r = p ≡ r.program

-- in at most one way
pub one_program : (p : Program) (r : Run) → IsProp (IsOf p r)
one_program p r = Coded-set program_code.the_row.coded p r.program

abbrev pub start_code : Coded Start
start_code =
    code_by (Program × (List ℕ × ℕ)) (coded× program_code.the_row.coded (coded× (coded_list coded_ℕ) coded_ℕ))
    (λ s. (s.program, (s.input, s.capacity))) (λ p. record { program = p.0; input = p.1.0; capacity = p.1.1 })
    (λ _. refl)

-- in at most one way
pub one_origin : (o : Option Start) (r : Run) → IsProp (IsFrom o r)
one_origin o r = Coded-set (coded_option start_code) o (Some (start_of r))

-- the name of no table
abbrev pub no_table : TableId
no_table =
    record { words = 0; slots = 0; views_name = 0; atom = 0; block = 0; offset = 0; slot_names = [] }
