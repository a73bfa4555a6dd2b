-- Global pointers to which main gives what malloc answers: uint64_t *a; and, in main, a = malloc(N * sizeof(uint64_t)); are the
-- global array a with N cells. An empty block stands in the place of the assignment, and in that of free(a); where the name
-- stands nowhere behind.
use Rattle.std.specs.Prelude.{ℕ, zero, suc, ◌+◌, ◌==◌, Bool, true, false, not, ◌&&◌, ◌||◌, if◌then◌else◌, List, [], ◌∷◌, ◌++◌, Option, Some, None, is_some}
use Rattle.std.specs.Str.{bytes_eq}
use Rattle.c_tokens.specs.declared.kind.Sign.TheVariants as sign
use Rattle.c_grammar.specs.Lexeme.{Uint64}
use Rattle.c_grammar.specs.Terminal.{Terminal, Fixed, Mark, Name, Num, same}
use Rattle.c_grammar.specs.Texts.{Item}
use Rattle.c_grammar.specs.Blocks.{Items, at, bare, is_directive}
use Rattle.c_grammar.specs.Allocations.{Allocation, Cells, allocates, begins_main, depth_behind, freed, is_boundary}
use Rattle.c_grammar.specs.Constants.{Names, is_among, is_mark}
use Rattle.c_grammar.specs.Counters.{is_set}
use Rattle.c_grammar.specs.Presence.{guarded}

-- ---- where a token stands

-- how many braces and brackets are open, whether main has begun, and whether a statement or a declaration begins
pub record State : Type 0 where
  pub depth : ℕ
  pub inside : Bool
  pub starts : Bool

abbrev pub begin : State
begin = record { depth = 0; inside = false; starts = true }

abbrev pub behind : Item Terminal → Items → State → State
behind i is s = record {
  depth = depth_behind i.terminal s.depth;
  inside = s.inside || begins_main i is;
  starts = is_boundary i.terminal;
}

abbrev pub at_global : State → Bool
at_global s = s.starts && not s.inside && (s.depth == 0)

abbrev pub at_statement : State → Bool
at_statement s = s.starts && s.inside && (s.depth == 1)

-- ---- the pointers

-- the names of global pointers, the calls that are given to names, each name that is assigned, and the names that are declared
-- or assigned once more
pub record Found : Type 0 where
  pub declared : Names
  pub allocated : List Allocation
  pub assigned : Names
  pub spoiled : Names

abbrev pub nothing_found : Found
nothing_found = record { declared = []; allocated = []; assigned = []; spoiled = [] }

abbrev pub spoil : List ℕ → Found → Found
spoil x f = record f { spoiled = f.spoiled ++ x ∷ [] }

abbrev pub declare : List ℕ → Found → Found
declare x f = if is_among f.declared x then spoil x f else record f { declared = f.declared ++ x ∷ [] }

abbrev pub declare_at : Terminal → Found → Found
declare_at (Name x) f = declare x f
declare_at t f = f

abbrev pub declare_first : Items → Found → Found
declare_first (s ∷ x ∷ is) f = declare_at x.terminal f
declare_first is f = f

-- uint64_t *NAME;
abbrev pub is_pointer : Item Terminal → Items → Bool
is_pointer t (s ∷ x ∷ e ∷ is) = same (Fixed Uint64) t.terminal && is_mark sign.Star s && is_mark sign.Semicolon e
is_pointer t is = false

abbrev pub with_pointer : State → Item Terminal → Items → Found → Found
with_pointer s i is f = if at_global s && is_pointer i is then declare_first is f else f

-- NAME = and a call
abbrev pub allocation_at : Item Terminal → Items → Option Allocation
allocation_at i [] = None
allocation_at i (e ∷ is) = if is_mark sign.Equal e then allocates i i.terminal is else None

abbrev pub allocate : Option Allocation → Found → Found
allocate None f = f
allocate (Some a) f = record f { allocated = f.allocated ++ a ∷ [] }

abbrev pub with_allocation : State → Item Terminal → Items → Found → Found
with_allocation s i is f = if at_statement s then allocate (allocation_at i is) f else f

abbrev pub assign : List ℕ → Found → Found
assign x f = if is_among f.assigned x then spoil x f else record f { assigned = f.assigned ++ x ∷ [] }

abbrev pub assign_at : Terminal → Found → Found
assign_at (Name x) f = assign x f
assign_at t f = f

abbrev pub with_assigned : Item Terminal → Items → Found → Found
with_assigned i is f = if is_set is then assign_at i.terminal f else f

abbrev pub noted : State → Item Terminal → Items → Found → Found
noted s i is f = with_assigned i is (with_allocation s i is (with_pointer s i is f))

abbrev pub found : State → Found → Items → Found
found s f [] = f
found s f (i ∷ is) = found (behind i is s) (noted s i is f) is

-- ---- which of them are arrays

abbrev pub cells_of : List Allocation → List ℕ → Option Cells
cells_of [] x = None
cells_of (a ∷ ls) x = if bytes_eq a.name x then Some a.cells else cells_of ls x

-- it is declared once, and assigned once, which is where it gets its cells
abbrev pub cells_for : Found → List ℕ → Option Cells
cells_for f x = if is_among f.declared x && not (is_among f.spoiled x) then cells_of f.allocated x else None

abbrev pub is_array : Found → List ℕ → Bool
is_array f x = is_some (cells_for f x)

abbrev pub arrays_among : Found → Names → Names
arrays_among f [] = []
arrays_among f (x ∷ xs) = if is_array f x then x ∷ arrays_among f xs else arrays_among f xs

abbrev pub arrays : Found → Names
arrays f = arrays_among f f.declared

-- ---- the tokens

-- what is written for a token, and for so many behind it
pub record Put : Type 0 where
  pub items : Items
  pub len : ℕ

-- the array up to the semicolon
abbrev pub array_put : Item Terminal → Item Terminal → List ℕ → Option Cells → Option Put
array_put i x y None = None
array_put i x y (Some c) = Some (record {
  items = at i (Fixed Uint64) ∷ at x (Name y) ∷ at c.place (Mark sign.OpenBracket) ∷ at c.place (Num (Some c.number)) ∷
      at c.place (Mark sign.CloseBracket) ∷ [];
  len = 2;
})

abbrev pub array_named : Found → Item Terminal → Item Terminal → Terminal → Option Put
array_named f i x (Name y) = array_put i x y (cells_for f y)
array_named f i x t = None

abbrev pub array_at : Found → Item Terminal → Items → Option Put
array_at f i (s ∷ x ∷ is) = array_named f i x x.terminal
array_at f i is = None

abbrev pub global_put : Found → Item Terminal → Items → Option Put
global_put f i is = if is_pointer i is then array_at f i is else None

-- up to the semicolon
abbrev pub rest_len : ℕ → Items → ℕ
rest_len n [] = n
rest_len n (i ∷ is) = if is_mark sign.Semicolon i then n + 1 else rest_len (n + 1) is

abbrev pub empty_block : Item Terminal → Items → Put
empty_block i is =
    record { items = at i (Mark sign.OpenBrace) ∷ at i (Mark sign.CloseBrace) ∷ []; len = rest_len 0 is }

abbrev pub is_given : Found → Option Allocation → Bool
is_given f None = false
is_given f (Some a) = is_array f a.name

abbrev pub is_let_go : Found → Option (List ℕ) → Bool
is_let_go f None = false
is_let_go f (Some x) = is_array f x

abbrev pub statement_put : Found → Item Terminal → Items → Option Put
statement_put f i is =
    if is_given f (allocation_at i is) || is_let_go f (freed i is) then Some (empty_block i is) else None

abbrev pub put_at : Found → State → Item Terminal → Items → Option Put
put_at f s i is =
    if at_global s then global_put f i is else (if at_statement s then statement_put f i is else None)

abbrev pub Onward : Type 0
Onward = State → ℕ → Items

abbrev pub put_on : State → Item Terminal → Items → Option Put → Onward → Items
put_on s i is None go = i ∷ go (behind i is s) 0
put_on s i is (Some p) go = p.items ++ go s p.len

abbrev pub pointed_on : Found → State → ℕ → Item Terminal → Items → Onward → Items
pointed_on f s zero i is go = put_on s i is (put_at f s i is) go
pointed_on f s (suc k) i is go = go s k

-- the tokens, of which k more are left out
abbrev pub pointed_in : Found → State → ℕ → Items → Items
pointed_in f s k [] = []
pointed_in f s k (i ∷ is) =
    if is_directive i.terminal then i ∷ pointed_in f s k is
    else pointed_on f s k i (bare is) (λ s k. pointed_in f s k is)

abbrev pub with_found : Found → Items → Items
with_found f is = guarded (arrays f) (pointed_in f begin 0 is)

-- all tokens, with these arrays, and where they are used with the clauses that they are present
abbrev pub pointed : Items → Items
pointed is = with_found (found begin nothing_found (bare is)) is
