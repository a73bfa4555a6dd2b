-- What says nothing and is left out: a declaration of a function without a body, extern void f(uint64_t *, int);, and a semicolon
-- that stands where a declaration begins. One that stands where a statement begins, as behind a macro that is a block, is an empty
-- block, so that a directive line before it has that as its statement.
use Rattle.std.specs.Prelude.{ℕ, zero, suc, ◌+◌, ◌-◌, ◌==◌, Bool, true, false, not, ◌&&◌, ◌||◌, nat_le, if◌then◌else◌, List, [], ◌∷◌, Option, Some, None, codes}
use Rattle.c_tokens.specs.declared.kind.Sign.TheVariants as sign
use Rattle.c_grammar.specs.Lexeme.{Else}
use Rattle.c_grammar.specs.Terminal.{Terminal, Fixed, Mark, Name, same}
use Rattle.c_grammar.specs.Texts.{Item}
use Rattle.c_grammar.specs.Blocks.{Items, at, bare, is_directive}
use Rattle.c_grammar.specs.Changes.{is_boundary}
use Rattle.c_grammar.specs.Constants.{is_mark, is_name}
use Rattle.c_grammar.specs.Functions.{is_specifier}
use Rattle.c_grammar.specs.Lasting.{is_line}
use Rattle.c_grammar.specs.FunctionHeads.{is_type}

-- ---- where a token stands

-- where a statement begins; behind a bracket or the word else, behind which a body may stand; elsewhere
pub data Before : Type 0 where
  Begins Bodied Other : Before

-- which braces are open, the innermost first, and whether each is that of a block; in so many round brackets; and what stands
-- before it
pub record State : Type 0 where
  pub braces : List Bool
  pub round : ℕ
  pub before : Before

abbrev pub begin : State
begin = record { braces = []; round = 0; before = Begins }

abbrev pub is_begin : Before → Bool
is_begin Begins = true
is_begin b = false

-- a brace that opens there is that of a block, and not of a list
abbrev pub opens_block : Before → Bool
opens_block Other = false
opens_block b = true

abbrev pub innermost : List Bool → Bool
innermost [] = false
innermost (b ∷ bs) = b

abbrev pub without_innermost : List Bool → List Bool
without_innermost [] = []
without_innermost (b ∷ bs) = bs

abbrev pub begins_if : Bool → Before
begins_if true = Begins
begins_if false = Other

abbrev pub opened : State → State
opened s = record {
  braces = opens_block s.before ∷ s.braces;
  round = s.round;
  before = begins_if (opens_block s.before);
}

abbrev pub closed : State → State
closed s = record {
  braces = without_innermost s.braces;
  round = s.round;
  before = begins_if (innermost s.braces);
}

abbrev pub plain : State → Item Terminal → State
plain s i =
    if is_mark sign.OpenParen i then record { braces = s.braces; round = s.round + 1; before = Other }
    else (if is_mark sign.CloseParen i then record { braces = s.braces; round = s.round - 1; before = Bodied }
    else (if is_mark sign.Semicolon i
    then record { braces = s.braces; round = s.round; before = begins_if (s.round == 0) }
    else record { braces = s.braces; round = s.round; before = if same (Fixed Else) i.terminal then Bodied else Other }))

-- behind a token
abbrev pub behind : State → Item Terminal → State
behind s i =
    if is_line i.terminal then s
    else (if is_mark sign.OpenBrace i then opened s else (if is_mark sign.CloseBrace i then closed s else plain s i))

-- ---- declarations of functions

-- up to the bracket that closes those that are open, and a semicolon, n tokens and so many more
abbrev pub closing : ℕ → ℕ → Items → Option ℕ
closing d n [] = None
closing d n (i ∷ is) =
    if is_boundary i.terminal then None
    else (if is_mark sign.OpenParen i then closing (d + 1) (n + 1) is
    else (if is_mark sign.CloseParen i then (if d == 0 then ended is else closing (d - 1) (n + 1) is)
    else closing d (n + 1) is))
  where
    ended : Items → Option ℕ
    ended [] = None
    ended (j ∷ js) = if is_mark sign.Semicolon j then Some (n + 2) else None

abbrev pub named : ℕ → Item Terminal → Items → Option ℕ
named n i (x ∷ o ∷ is) =
    if is_type i.terminal && (is_name x.terminal && is_mark sign.OpenParen o) then closing 0 (n + 2) is else None
named n i is = None

abbrev pub is_specified : Terminal → Bool
is_specified t = is_specifier t || same (Name (codes "extern")) t

-- a declaration of a function: how many tokens follow its first one, behind which there are n words
abbrev pub declared : ℕ → Items → Option ℕ
declared n [] = None
declared n (i ∷ is) = if is_specified i.terminal then declared (n + 1) is else named n i is

-- ---- the tokens

abbrev pub is_outside : List Bool → Bool
is_outside [] = true
is_outside bs = false

-- so many tokens behind it are left out with it
abbrev pub left_out : State → Item Terminal → Items → Option ℕ
left_out s i is =
    if not (is_begin s.before) then None
    else (if is_mark sign.Semicolon i then Some 0
    else (if is_outside s.braces then declared 0 (i ∷ is) else None))

abbrev pub Onward : Type 0
Onward = State → ℕ → Items

-- nothing outside of blocks, and an empty block in one, before others
abbrev pub emptied : Bool → Item Terminal → Items → Items
emptied outside i is = if outside then is else at i (Mark sign.OpenBrace) ∷ at i (Mark sign.CloseBrace) ∷ is

abbrev pub needed_by : State → Item Terminal → Option ℕ → Onward → Items
needed_by s i None go = i ∷ go (behind s i) 0
needed_by s i (Some n) go = emptied (is_outside s.braces) i (go s n)

abbrev pub needed_on : State → ℕ → Item Terminal → Items → Onward → Items
needed_on s zero i is go = needed_by s i (left_out s i is) go
needed_on s (suc k) i is go = go s k

-- the tokens, of which k more are left out
abbrev pub needed_in : State → ℕ → Items → Items
needed_in s k [] = []
needed_in s k (i ∷ is) =
    if is_directive i.terminal then i ∷ needed_in s k is else needed_on s k i (bare is) (λ s k. needed_in s k is)

-- all tokens but these
abbrev pub needed : Items → Items
needed is = needed_in begin 0 is
