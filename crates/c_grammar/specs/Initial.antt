-- Initializers of globals: a statement for each of their numbers at the beginning of main. They are left out before the
-- grammar is asked, so that it sees declarations and assignments.
use Rattle.std.specs.Prelude.{ℕ, zero, suc, ◌+◌, Bool, true, false, ◌&&◌, nat_lt, if◌then◌else◌, List, [], ◌∷◌, ◌++◌, Option, Some, None}
use Rattle.c_tokens.specs.declared.kind.Sign.TheVariants as sign
use Rattle.c_grammar.specs.Lexeme.{Uint64}
use Rattle.c_grammar.specs.Terminal.{Terminal, Fixed, Mark, Name, Num, same}
use Rattle.c_grammar.specs.Texts.{Item}
use Rattle.c_grammar.specs.Blocks.{Items, at, is_directive, bare}
use Rattle.c_grammar.specs.Constants.{is_mark}

-- the number that a token is
abbrev pub value_of : Terminal → Option ℕ
value_of (Num o) = o
value_of _ = None

-- ---- what is set

-- x = n; at the number
abbrev pub scalar_set : List ℕ → Item Terminal → ℕ → Items
scalar_set x i n = at i (Name x) ∷ at i (Mark sign.Equal) ∷ at i (Num (Some n)) ∷ at i (Mark sign.Semicolon) ∷ []

-- x[k] = n; at the number
abbrev pub cell_set : List ℕ → ℕ → Item Terminal → ℕ → Items
cell_set x k i n =
    at i (Name x) ∷ at i (Mark sign.OpenBracket) ∷ at i (Num (Some k)) ∷ at i (Mark sign.CloseBracket) ∷
    at i (Mark sign.Equal) ∷ at i (Num (Some n)) ∷ at i (Mark sign.Semicolon) ∷ []

-- what an initializer sets, and how many tokens it has behind the sign =
pub record Initial : Type 0 where
  pub len : ℕ
  pub sets : Items

abbrev pub scalar_valued : List ℕ → Item Terminal → Option ℕ → Option Initial
scalar_valued x i None = None
scalar_valued x i (Some n) = Some (record { len = 1; sets = scalar_set x i n })

-- a number, and the end of the declaration
abbrev pub scalar_initial : List ℕ → Items → Option Initial
scalar_initial x (n ∷ s ∷ is) = if is_mark sign.Semicolon s then scalar_valued x n (value_of n.terminal) else None
scalar_initial x is = None

-- behind the last number of a list the declaration ends
abbrev pub ends_list : Item Terminal → Item Terminal → Bool
ends_list s e = is_mark sign.CloseBrace s && is_mark sign.Semicolon e

-- a number, behind which these two tokens stand, for the cell k of so many
abbrev pub cell_valued : List ℕ → ℕ → ℕ → Items → Item Terminal → Item Terminal → Item Terminal → Option ℕ →
    (Items → Option Initial) → Option Initial
cell_valued x length k sets i s e None go = None
cell_valued x length k sets i s e (Some n) go =
    if nat_lt k length then
    (if ends_list s e then Some (record { len = k + k + 3; sets = sets ++ cell_set x k i n })
    else (if is_mark sign.Comma s then go (sets ++ cell_set x k i n) else None))
    else None

-- numbers up to a brace, of which k stand before
abbrev pub list_initial : List ℕ → ℕ → ℕ → Items → Items → Option Initial
list_initial x length k sets (n ∷ s ∷ e ∷ is) =
    cell_valued x length k sets n s e (value_of n.terminal) (λ sets. list_initial x length (k + 1) sets (e ∷ is))
list_initial x length k sets is = None

-- numbers in braces, no more than there are cells
abbrev pub array_initial : List ℕ → ℕ → Items → Option Initial
array_initial x length [] = None
array_initial x length (o ∷ is) = if is_mark sign.OpenBrace o then list_initial x length 0 [] is else None

-- ---- where an initializer may stand

abbrev pub named_scalar : Terminal → Items → Option Initial
named_scalar (Name x) is = scalar_initial x is
named_scalar t is = None

abbrev pub named_array : Terminal → Option ℕ → Items → Option Initial
named_array (Name x) (Some length) is = array_initial x length is
named_array t o is = None

abbrev pub is_type : Item Terminal → Bool
is_type i = same (Fixed Uint64) i.terminal

-- the number between two brackets
abbrev pub length_in : Item Terminal → Item Terminal → Item Terminal → Option ℕ
length_in o n c = if is_mark sign.OpenBracket o && is_mark sign.CloseBracket c then value_of n.terminal else None

-- behind uint64_t NAME = or uint64_t NAME[NUM] =
abbrev pub initial : Items → Items → Option Initial
initial (t ∷ x ∷ []) is = if is_type t then named_scalar x.terminal is else None
initial (t ∷ x ∷ o ∷ n ∷ c ∷ []) is = if is_type t then named_array x.terminal (length_in o n c) is else None
initial since is = None

-- ---- all tokens

-- outside of blocks: the tokens of the declaration so far, and what is set at the beginning of main; or a block has begun
pub record Globals : Type 0 where
  pub since : Items
  pub late : Items
  pub inside : Bool

abbrev pub no_globals : Globals
no_globals = record { since = []; late = []; inside = false }

abbrev pub in_main : Globals
in_main = record { since = []; late = []; inside = true }

abbrev pub Onward : Type 0
Onward = Globals → ℕ → Items

abbrev pub outside_of : Items → Items → Globals
outside_of since late = record { since = since; late = late; inside = false }

abbrev pub declared : Item Terminal → Globals → Onward → Items
declared i g go = i ∷ go (outside_of (if is_mark sign.Semicolon i then [] else g.since ++ i ∷ []) g.late) 0

abbrev pub set_late : Item Terminal → Globals → Option Initial → Onward → Items
set_late i g None go = declared i g go
set_late i g (Some f) go = go (outside_of [] (g.late ++ f.sets)) f.len

-- the brace of the first block
abbrev pub begun : Item Terminal → Globals → Onward → Items
begun i g go = i ∷ (g.late ++ go in_main 0)

abbrev pub outside : Item Terminal → Items → Globals → Onward → Items
outside i is g go =
    if is_mark sign.OpenBrace i then begun i g go
    else (if is_mark sign.Equal i then set_late i g (initial g.since is) go else declared i g go)

abbrev pub global_on : ℕ → Globals → Item Terminal → Items → Onward → Items
global_on (suc k) g i is go = go g k
global_on zero g i is go = if g.inside then i ∷ go g 0 else outside i is g go

-- the tokens without initializers of globals, and with what they set; k more tokens are left out
unfoldable pub initialized : Globals → ℕ → Items → Items
initialized g k [] = []
initialized g k (i ∷ is) =
    if is_directive i.terminal then i ∷ initialized g k is
    else global_on k g i (bare is) (λ g k. initialized g k is)
