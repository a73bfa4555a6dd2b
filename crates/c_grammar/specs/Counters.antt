-- Loops whose names are declared before them, in a block and without a value: each of them declares its own, and the
-- declaration is left out, so that elsewhere there is no such name.
use Rattle.std.specs.Prelude.{ℕ, zero, suc, ◌+◌, ◌==◌, Bool, true, false, not, ◌&&◌, ◌||◌, if◌then◌else◌, List, [], ◌∷◌, ◌++◌, Option, Some, None, codes}
use Rattle.c_tokens.specs.declared.kind.Sign.TheVariants as sign
use Rattle.c_grammar.specs.Lexeme.{Uint64, Int, For}
use Rattle.c_grammar.specs.Terminal.{Terminal, Fixed, Name, same}
use Rattle.c_grammar.specs.Texts.{Item}
use Rattle.c_grammar.specs.Blocks.{Items, at, bare, is_directive}
use Rattle.c_grammar.specs.Constants.{Names, depth_behind, is_mark}
use Rattle.c_grammar.specs.LineRules.{is_among}

-- ---- what stands right before a token

-- the word for; that and a bracket; another bracket or the word const; a type by which a declaration begins, or a comma in
-- one; a type behind a bracket or const; a name of such a declaration
pub data Before : Type 0 where
  Other IsFor InHead Bars IsType Barred IsNamed : Before

abbrev pub is_type : Terminal → Bool
is_type t = same (Fixed Uint64) t || same (Fixed Int) t

abbrev pub behind_bracket : Before → Before
behind_bracket IsFor = InHead
behind_bracket b = Bars

abbrev pub behind_type : Before → Before
behind_type InHead = Other
behind_type Bars = Barred
behind_type b = IsType

abbrev pub behind_comma : Before → Before
behind_comma IsNamed = IsType
behind_comma b = Other

abbrev pub behind_name : Before → Before
behind_name IsType = IsNamed
behind_name b = Other

abbrev pub is_name : Terminal → Bool
is_name (Name x) = true
is_name t = false

abbrev pub behind_other : Before → Terminal → Before
behind_other b t =
    if same (Fixed For) t then IsFor
    else (if same (Name (codes "const")) t then Bars
    else (if is_name t then behind_name b else Other))

-- behind a token
abbrev pub behind : Before → Item Terminal → Before
behind b i =
    if is_mark sign.OpenParen i then behind_bracket b
    else (if is_mark sign.Comma i then behind_comma b
    else (if is_type i.terminal then behind_type b else behind_other b i.terminal))

-- ---- which names these are

-- the names of loops that declare none, of scalars that a block declares without a value, and the others that are declared
pub record Found : Type 0 where
  pub heads : Names
  pub unset : Names
  pub others : Names

abbrev pub nothing_found : Found
nothing_found = record { heads = []; unset = []; others = [] }

abbrev pub is_set : Items → Bool
is_set [] = false
is_set (e ∷ is) = is_mark sign.Equal e

abbrev pub ends_name : Items → Bool
ends_name [] = false
ends_name (s ∷ is) = is_mark sign.Semicolon s || is_mark sign.Comma s

abbrev pub with_head : List ℕ → Found → Found
with_head x f = record { heads = x ∷ f.heads; unset = f.unset; others = f.others }

abbrev pub with_unset : List ℕ → Found → Found
with_unset x f = record { heads = f.heads; unset = x ∷ f.unset; others = f.others }

abbrev pub with_other : List ℕ → Found → Found
with_other x f = record { heads = f.heads; unset = f.unset; others = x ∷ f.others }

-- a name with what stands before it, in so many blocks
abbrev pub named : ℕ → Before → List ℕ → Items → Found → Found
named d InHead x is f = if is_set is then with_head x f else f
named d IsType x is f = if not (d == 0) && ends_name is then with_unset x f else with_other x f
named d Barred x is f = with_other x f
named d b x is f = f

abbrev pub found_at : ℕ → Before → Terminal → Items → Found → Found
found_at d b (Name x) is f = named d b x is f
found_at d b t is f = f

abbrev pub found : ℕ → Before → Found → Items → Found
found d b f [] = f
found d b f (i ∷ is) = found (depth_behind i.terminal d) (behind b i) (found_at d b i.terminal is f) is

-- such a loop's name is declared without a value, and nowhere else
abbrev pub is_counter : Found → List ℕ → Bool
is_counter f x = is_among f.heads x && is_among f.unset x && not (is_among f.others x)

-- ---- the tokens

abbrev pub counts : Found → Terminal → Bool
counts f (Name x) = is_counter f x
counts f t = false

-- behind a type: up to the semicolon so many tokens, which are such names with commas between them
abbrev pub list_len : Found → ℕ → Items → Option ℕ
list_len f n [] = None
list_len f n (x ∷ []) = None
list_len f n (x ∷ s ∷ is) =
    if counts f x.terminal
    then (if is_mark sign.Semicolon s then Some (n + 2) else (if is_mark sign.Comma s then list_len f (n + 2) is else None))
    else None

abbrev pub may_begin : Before → Bool
may_begin InHead = false
may_begin Bars = false
may_begin b = true

-- a declaration of such names alone begins: so many tokens behind its type
abbrev pub declaration_len : Found → ℕ → Before → Item Terminal → Items → Option ℕ
declaration_len f d b i is =
    if not (d == 0) && (is_type i.terminal && may_begin b) then list_len f 0 is else None

abbrev pub in_head : Before → Bool
in_head InHead = true
in_head b = false

-- the name of such a loop, which has no type
abbrev pub is_bare : Found → Before → Item Terminal → Items → Bool
is_bare f b i is = in_head b && is_set is && counts f i.terminal

abbrev pub Onward : Type 0
Onward = ℕ → Before → ℕ → Items

-- the type of such a name
abbrev pub type_for : Found → Before → Item Terminal → Items → Items
type_for f b i is = if is_bare f b i is then at i (Fixed Uint64) ∷ [] else []

abbrev pub put : Found → ℕ → Before → Item Terminal → Items → Onward → Items
put f d b i is go = type_for f b i is ++ (i ∷ go (depth_behind i.terminal d) (behind b i) 0)

abbrev pub put_on : Found → ℕ → Before → Item Terminal → Items → Option ℕ → Onward → Items
put_on f d b i is None go = put f d b i is go
put_on f d b i is (Some n) go = go d Other n

abbrev pub counted_on : Found → ℕ → Before → ℕ → Item Terminal → Items → Onward → Items
counted_on f d b zero i is go = put_on f d b i is (declaration_len f d b i is) go
counted_on f d b (suc k) i is go = go d b k

-- the tokens, in so many blocks and behind such a token, of which k more are left out
abbrev pub counted_in : Found → ℕ → Before → ℕ → Items → Items
counted_in f d b k [] = []
counted_in f d b k (i ∷ is) =
    if is_directive i.terminal then i ∷ counted_in f d b k is
    else counted_on f d b k i (bare is) (λ d b k. counted_in f d b k is)

-- all tokens, with the types of these names in the heads of their loops
abbrev pub counted : Items → Items
counted is = counted_in (found 0 Other nothing_found (bare is)) 0 Other 0 is
