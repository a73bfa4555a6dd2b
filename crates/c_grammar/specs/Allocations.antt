-- Arrays that main allocates: uint64_t *a = malloc(N * sizeof(uint64_t)); there is the global array a with N cells. An empty
-- block stands in its place, and in that of free(a); where the name stands nowhere behind. They are put so before the
-- grammar is asked, so that it sees arrays.
use Rattle.std.specs.Prelude.{ℕ, ◌+◌, ◌-◌, ◌*◌, Bool, true, false, not, ◌&&◌, ◌||◌, ◌==◌, nat_lt, if◌then◌else◌, List, [], ◌∷◌, ◌++◌, length, reverse, Option, Some, None, codes}
use Rattle.c_tokens.specs.declared.kind.Sign.{Sign}
use Rattle.c_tokens.specs.declared.kind.Sign.TheVariants as sign
use Rattle.c_grammar.specs.Lexeme.{Uint64, Int, Main}
use Rattle.c_grammar.specs.Terminal.{Terminal, Fixed, Mark, Name, Num, same}
use Rattle.c_grammar.specs.Texts.{Item}
use Rattle.c_grammar.specs.Blocks.{Items, at, is_directive, bare}
use Rattle.c_grammar.specs.Expressions.{fitting}
use Rattle.c_grammar.specs.Constants.{Names, is_among, is_mark, malloc_word, calloc_word, sizeof_word}
use Rattle.c_grammar.specs.Initial.{value_of}
use Rattle.c_grammar.specs.Presence.{guarded}

-- ---- sizes

-- what follows these tokens, if they stand at the front
abbrev pub skipped : List Terminal → Items → Option Items
skipped [] is = Some is
skipped (t ∷ ts) [] = None
skipped (t ∷ ts) (i ∷ is) = if same t i.terminal then skipped ts is else None

abbrev pub either : Option Items → Option Items → Option Items
either (Some is) o = Some is
either None o = o

-- sizeof(uint64_t), sizeof(*x) and sizeof *x
abbrev pub type_size : List Terminal
type_size = sizeof_word ∷ Mark sign.OpenParen ∷ Fixed Uint64 ∷ Mark sign.CloseParen ∷ []

abbrev pub cell_size : List ℕ → List Terminal
cell_size x = sizeof_word ∷ Mark sign.OpenParen ∷ Mark sign.Star ∷ Name x ∷ Mark sign.CloseParen ∷ []

abbrev pub open_size : List ℕ → List Terminal
open_size x = sizeof_word ∷ Mark sign.Star ∷ Name x ∷ []

-- what follows the size of a cell of x
abbrev pub behind_size : List ℕ → Items → Option Items
behind_size x is = either (skipped type_size is) (either (skipped (cell_size x) is) (skipped (open_size x) is))

-- the end of a call, and of the statement
abbrev pub ends_call : Items → Bool
ends_call (b ∷ s ∷ is) = is_mark sign.CloseParen b && is_mark sign.Semicolon s
ends_call is = false

abbrev pub is_ended : Option Items → Bool
is_ended None = false
is_ended (Some is) = ends_call is

-- ---- numbers of cells

abbrev pub times : ℕ → Option ℕ → Option ℕ
times v None = None
times v (Some n) = fitting (v * n)

-- behind a number and a sign comes the size, where the sign is that before it, or a further number
abbrev pub counted_on : List ℕ → Sign → Item Terminal → Items → Option ℕ → (ℕ → Option ℕ) → Option ℕ
counted_on x last s is None go = None
counted_on x last s is (Some v) go =
    if is_mark last s && is_ended (behind_size x is) then Some v else (if is_mark sign.Star s then go v else None)

-- v times the numbers up to the size, and the end
abbrev pub counted : List ℕ → Sign → ℕ → Items → Option ℕ
counted x last v (n ∷ s ∷ is) = counted_on x last s is (times v (value_of n.terminal)) (λ w. counted x last w is)
counted x last v is = None

abbrev pub numbered_on : Items → Option ℕ → (ℕ → Option ℕ) → Option ℕ
numbered_on is None go = None
numbered_on is (Some v) go = if ends_call is then Some v else go v

-- v times the numbers behind the size up to the end
abbrev pub numbered : ℕ → Items → Option ℕ
numbered v (s ∷ n ∷ is) =
    if is_mark sign.Star s then numbered_on is (times v (value_of n.terminal)) (λ w. numbered w is) else None
numbered v is = None

abbrev pub numbered_behind : Option Items → Option ℕ
numbered_behind None = None
numbered_behind (Some is) = numbered 1 is

abbrev pub first_number : Option ℕ → Option ℕ → Option ℕ
first_number (Some n) o = Some n
first_number None o = o

-- of malloc: the size stands last or first
abbrev pub product : List ℕ → Items → Option ℕ
product x is = first_number (counted x sign.Star 1 is) (numbered_behind (behind_size x is))

-- ---- allocations

-- so many cells, which is told at a token
pub record Cells : Type 0 where
  pub place : Item Terminal
  pub number : ℕ

abbrev pub told : Items → Option ℕ → Option Cells
told (i ∷ is) (Some n) = Some (record { place = i; number = n })
told is o = None

-- behind the bracket of malloc, or of calloc
abbrev pub asked : List ℕ → Option Items → Option Items → Option Cells
asked x (Some is) o = told is (product x is)
asked x None (Some is) = told is (counted x sign.Comma 1 is)
asked x None None = None

-- malloc or calloc, and the end of the statement
abbrev pub called : List ℕ → Items → Option Cells
called x is =
    asked x (skipped (malloc_word ∷ Mark sign.OpenParen ∷ []) is) (skipped (calloc_word ∷ Mark sign.OpenParen ∷ []) is)

abbrev pub cast : List Terminal
cast = Mark sign.OpenParen ∷ Fixed Uint64 ∷ Mark sign.Star ∷ Mark sign.CloseParen ∷ []

abbrev pub or_all : Option Items → Items → Items
or_all None is = is
or_all (Some js) is = js

-- an array that is allocated, with the token of its name
pub record Allocation : Type 0 where
  pub name : List ℕ
  pub named : Item Terminal
  pub cells : Cells

abbrev pub with_cells : List ℕ → Item Terminal → Option Cells → Option Allocation
with_cells x i None = None
with_cells x i (Some c) = Some (record { name = x; named = i; cells = c })

abbrev pub allocates : Item Terminal → Terminal → Items → Option Allocation
allocates i (Name x) is = with_cells x i (called x (or_all (skipped cast is) is))
allocates i t is = None

-- uint64_t *NAME = and a call
abbrev pub allocation : Item Terminal → Items → Option Allocation
allocation t (s ∷ x ∷ e ∷ is) =
    if same (Fixed Uint64) t.terminal && is_mark sign.Star s && is_mark sign.Equal e then allocates x x.terminal is else None
allocation t is = None

-- the global array
abbrev pub declaration : Item Terminal → Allocation → Items
declaration t a =
    let p = a.cells.place in
    at t (Fixed Uint64) ∷ at a.named (Name a.name) ∷ at p (Mark sign.OpenBracket) ∷ at p (Num (Some a.cells.number)) ∷
    at p (Mark sign.CloseBracket) ∷ at p (Mark sign.Semicolon) ∷ []

-- ---- free

abbrev pub is_named : List ℕ → Items → Bool
is_named x [] = false
is_named x (i ∷ is) = same (Name x) i.terminal || is_named x is

abbrev pub freed_name : Terminal → Items → Option (List ℕ)
freed_name (Name x) is = if is_named x is then None else Some x
freed_name t is = None

-- free(NAME); of a name that stands nowhere behind
abbrev pub freed : Item Terminal → Items → Option (List ℕ)
freed f (o ∷ x ∷ b ∷ s ∷ is) =
    if same (Name (codes "free")) f.terminal && is_mark sign.OpenParen o && ends_call (b ∷ s ∷ is)
    then freed_name x.terminal is else None
freed f is = None

abbrev pub is_one : Names → Option (List ℕ) → Bool
is_one names None = false
is_one names (Some x) = is_among names x

-- of an array that was allocated
abbrev pub is_freed : Names → Item Terminal → Items → Bool
is_freed names f is = is_one names (freed f is)

-- ---- all tokens

-- what has been read: the tokens before main, the arrays, and the tokens from there on; whether main has begun; how many
-- braces and brackets are open; whether a statement begins; whether tokens are left out, up to the end of the statement; and
-- the names of the arrays, the last first
pub record Reading : Type 0 where
  pub before : Items
  pub arrays : Items
  pub done : Items
  pub inside : Bool
  pub depth : ℕ
  pub starts : Bool
  pub out : Bool
  pub names : Names

abbrev pub nothing_read : Reading
nothing_read =
    record { before = []; arrays = []; done = []; inside = false; depth = 0; starts = false; out = false; names = [] }

abbrev pub is_boundary : Terminal → Bool
is_boundary t =
    same (Mark sign.Semicolon) t || same (Mark sign.OpenBrace) t || same (Mark sign.CloseBrace) t

abbrev pub depth_behind : Terminal → ℕ → ℕ
depth_behind t d =
    if same (Mark sign.OpenBrace) t || same (Mark sign.OpenParen) t then d + 1
    else (if same (Mark sign.CloseBrace) t || same (Mark sign.CloseParen) t then d - 1 else d)

-- a directive line
abbrev pub passed : Item Terminal → Reading → Reading
passed i r = record r { done = r.done ++ i ∷ [] }

-- a token by itself
abbrev pub kept : Item Terminal → Reading → Reading
kept i r = record r {
  done = r.done ++ i ∷ [];
  depth = depth_behind i.terminal r.depth;
  starts = is_boundary i.terminal;
}

-- the first token of main
abbrev pub entered : Item Terminal → Reading → Reading
entered i r = record r { before = r.before ++ r.done; done = i ∷ []; inside = true; starts = false }

-- the first token of a statement that is left out
abbrev pub opened : Item Terminal → Reading → Reading
opened i r = record r { done = r.done ++ at i (Mark sign.OpenBrace) ∷ []; out = true }

-- and its last one
abbrev pub closed : Item Terminal → Reading → Reading
closed i r = record r { done = r.done ++ at i (Mark sign.CloseBrace) ∷ []; starts = true; out = false }

abbrev pub allotted : Item Terminal → Allocation → Reading → Reading
allotted i a r = opened i (record r { arrays = r.arrays ++ declaration i a; names = a.name ∷ r.names })

-- there may be so many arrays
abbrev pub max_arrays : ℕ
max_arrays = 64

-- no array is read from there on
abbrev pub given_up : Item Terminal → Reading → Reading
given_up i r = kept i (record r { inside = false })

-- there are not too many, and the name stands nowhere before in main
abbrev pub is_allowed : Allocation → Reading → Bool
is_allowed a r = nat_lt (length r.names) max_arrays && not (is_named a.name (bare r.done))

abbrev pub by_allocation : Item Terminal → Items → Option Allocation → Reading → Reading
by_allocation i is (Some a) r = if is_allowed a r then allotted i a r else given_up i r
by_allocation i is None r = if is_freed r.names i is then opened i r else kept i r

abbrev pub begins_main : Item Terminal → Items → Bool
begins_main i [] = false
begins_main i (m ∷ is) = same (Fixed Int) i.terminal && same (Fixed Main) m.terminal

-- a statement of main begins
abbrev pub at_statement : Reading → Bool
at_statement r = r.inside && r.starts && (r.depth == 1)

-- the next token, before others
abbrev pub taken : Item Terminal → Items → Reading → Reading
taken i is r =
    if r.out then (if is_mark sign.Semicolon i then closed i r else r)
    else (if at_statement r then by_allocation i is (allocation i is) r
    else (if not r.inside && begins_main i is then entered i r else kept i r))

abbrev pub next : Item Terminal → Items → Reading → Reading
next i is r = if is_directive i.terminal then passed i r else taken i (bare is) r

unfoldable pub all_read : Reading → Items → Reading
all_read r [] = r
all_read r (i ∷ is) = all_read (next i is r) is

-- the arrays stand before main
abbrev pub joined : Reading → Items
joined r = r.before ++ (r.arrays ++ r.done)

abbrev pub guarded_reading : Reading → Items
guarded_reading r = guarded (reverse r.names) (joined r)

-- the tokens with the arrays that main allocates, and where these are used with the clauses that they are present
abbrev pub allocated : Items → Items
allocated is = guarded_reading (all_read nothing_read is)
