-- Scalars that a block declares without a value, and that are assigned before all else wherever they are used: each is declared
-- where it is first assigned. No directive line is asked.
use Rattle.std.specs.Prelude.{ℕ, ◌==◌, Bool, true, false, not, ◌&&◌, ◌||◌, nat_le, if◌then◌else◌, List, [], ◌∷◌, ◌++◌, length, Option, Some, None}
use Rattle.c_tokens.specs.declared.kind.Sign.TheVariants as sign
use Rattle.c_grammar.specs.Lexeme.{Uint64, Int}
use Rattle.c_grammar.specs.Terminal.{Terminal, Fixed, Name, same}
use Rattle.c_grammar.specs.Texts.{Item}
use Rattle.c_grammar.specs.Blocks.{Items, at, bare, is_directive}
use Rattle.c_grammar.specs.Changes.{is_boundary, is_ended}
use Rattle.c_grammar.specs.Constants.{Names, depth_behind, is_among, is_mark}
use Rattle.c_grammar.specs.Presence.{is_declared}

-- ---- where a name stands

-- what stands right before a token: what a statement begins behind; a type that begins one; any other type; the name that such
-- a type declares
pub data Before : Type 0 where
  Other Starts Typed Barred Ending : Before

abbrev pub begins : Before → Bool
begins Starts = true
begins b = false

abbrev pub behind_type : Before → Before
behind_type Starts = Typed
behind_type b = Barred

abbrev pub behind_name : Before → Before
behind_name Typed = Ending
behind_name b = Other

-- behind a token, of which that name may be one
abbrev pub behind : List ℕ → Before → Item Terminal → Before
behind x b i =
    if is_boundary i.terminal then Starts
    else (if same (Fixed Uint64) i.terminal then behind_type b
    else (if same (Fixed Int) i.terminal then Barred
    else (if same (Name x) i.terminal then behind_name b else Other)))

-- so many blocks are open; the name is declared in one of them, and first assigned in another, or in none, which is 0; it was
-- assigned so before
pub record Stand : Type 0 where
  pub depth : ℕ
  pub declared : ℕ
  pub owned : ℕ
  pub used : Bool

abbrev pub begin : Stand
begin = record { depth = 0; declared = 0; owned = 0; used = false }

abbrev pub declares : Stand → Stand
declares s = record { depth = s.depth; declared = s.depth; owned = s.owned; used = s.used }

abbrev pub owns : Stand → Stand
owns s = record { depth = s.depth; declared = s.declared; owned = s.depth; used = true }

abbrev pub left : Item Terminal → ℕ → ℕ → ℕ
left i d n = if is_mark sign.CloseBrace i && (n == d) then 0 else n

-- behind another token
abbrev pub passed : Item Terminal → Stand → Stand
passed i s = record {
  depth = depth_behind i.terminal s.depth;
  declared = left i s.depth s.declared;
  owned = left i s.depth s.owned;
  used = s.used;
}

-- ---- which names these are

-- the name stands there before a semicolon
abbrev pub stands : List ℕ → Items → Bool
stands x [] = false
stands x (i ∷ is) = if is_mark sign.Semicolon i then false else same (Name x) i.terminal || stands x is

-- what is assigned there does not have the name
abbrev pub is_fresh : List ℕ → Items → Bool
is_fresh x [] = false
is_fresh x (e ∷ is) = is_mark sign.Equal e && not (stands x is)

-- a block inside the one that declares it assigns it first
abbrev pub may_own : List ℕ → Stand → Items → Bool
may_own x s is = not (s.declared == 0) && not (s.declared == s.depth) && is_fresh x is

-- behind the name, unless it spoils it to stand there
abbrev pub mentioned : List ℕ → Before → Stand → Items → Option Stand
mentioned x Typed s is = if is_ended is && (s.declared == 0) && not (s.depth == 0) then Some (declares s) else None
mentioned x Barred s is = None
mentioned x Starts s is =
    if not (s.owned == 0) then Some s else (if may_own x s is then Some (owns s) else None)
mentioned x b s is = if s.owned == 0 then None else Some s

abbrev pub unless : Option Stand → (Stand → Bool) → Bool
unless None go = false
unless (Some s) go = go s

-- none of these tokens spoils the name, which is used
abbrev pub is_moved : List ℕ → Before → Stand → Items → Bool
is_moved x b s [] = s.used
is_moved x b s (i ∷ is) =
    if same (Name x) i.terminal then unless (mentioned x b s is) (λ s. is_moved x (behind x b i) s is)
    else is_moved x (behind x b i) (passed i s) is

-- so many names are looked at
abbrev pub most_names : ℕ
most_names = 64

abbrev pub with_name : Terminal → Names → Names
with_name (Name x) xs = if is_among xs x || nat_le most_names (length xs) then xs else xs ++ x ∷ []
with_name t xs = xs

-- with the name that is declared by a token and those behind it without a value
abbrev pub with_unset : Item Terminal → Items → Names → Names
with_unset i [] xs = xs
with_unset i (x ∷ is) xs = if same (Fixed Uint64) i.terminal && is_ended is then with_name x.terminal xs else xs

abbrev pub unset : Names → Items → Names
unset xs [] = xs
unset xs (i ∷ is) = unset (with_unset i is xs) is

abbrev pub unspoiled : Names → Items → Names
unspoiled [] is = []
unspoiled (x ∷ xs) is = if is_moved x Starts begin is then x ∷ unspoiled xs is else unspoiled xs is

-- the names that are moved, of tokens without directive lines
abbrev pub moved_names : Items → Names
moved_names is = unspoiled (unset [] is) is

-- ---- the tokens

-- the type of such a name, where it is first assigned
abbrev pub name_put : Before → Stand → Item Terminal → Items
name_put Typed s i = []
name_put Starts s i = if s.owned == 0 then at i (Fixed Uint64) ∷ i ∷ [] else i ∷ []
name_put b s i = i ∷ []

abbrev pub behind_put : Before → Stand → Stand
behind_put Starts s = if s.owned == 0 then owns s else s
behind_put b s = s

abbrev pub is_ending : Before → Bool
is_ending Ending = true
is_ending b = false

-- another token, unless it belongs to the declaration
abbrev pub other_put : List ℕ → Before → Item Terminal → Items → Items
other_put x b i is = if is_declared x i is || (is_ending b && is_mark sign.Semicolon i) then [] else i ∷ []

abbrev pub Onward : Type 0
Onward = Before → Stand → Items

abbrev pub moved_on : List ℕ → Before → Stand → Item Terminal → Items → Onward → Items
moved_on x b s i is go =
    if same (Name x) i.terminal then name_put b s i ++ go (behind x b i) (behind_put b s)
    else other_put x b i is ++ go (behind x b i) (passed i s)

abbrev pub moved : List ℕ → Before → Stand → Items → Items
moved x b s [] = []
moved x b s (i ∷ is) =
    if is_directive i.terminal then i ∷ moved x b s is else moved_on x b s i (bare is) (λ b s. moved x b s is)

-- all tokens, with these names declared where they are first assigned
abbrev pub all_moved : Names → Items → Items
all_moved [] is = is
all_moved (x ∷ xs) is = all_moved xs (moved x Starts begin is)
