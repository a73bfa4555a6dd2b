-- Numbers of the type int: where each value that something of that type gets anywhere in the source is small, which is from 0 to
-- 2^31 - 1 wherever C says anything of it, int is uint64_t in the declarations of arrays, pointers, functions, parameters and
-- scalars. Beyond 2^31 - 1, where C says nothing of a sum of two ints, there is nothing to keep. What stays an int are names of
-- loops, and scalars that nothing changes and whose values are of numbers, such names and arithmetic: other forms read these.
-- printf("%d\n", e) prints such a value. Where one value is not seen to be small, or cells of one type are passed for those of
-- the other, all stays as it is.
use Rattle.std.specs.Prelude.{ℕ, zero, suc, ◌+◌, ◌-◌, ◌^◌, ◌==◌, Bool, true, false, not, ◌&&◌, ◌||◌, nat_le, nat_lt, max, if◌then◌else◌, List, [], ◌∷◌, ◌++◌, length, Option, Some, None, codes, is_some}
use Rattle.std.specs.Str.{bytes_eq}
use Rattle.c_tokens.specs.declared.kind.Sign.TheVariants as sign
use Rattle.c_grammar.specs.Lexeme.{Lexeme, For, Int, Main, Numbered, Uint64}
use Rattle.c_grammar.specs.Terminal.{Terminal, Fixed, Line, Mark, Name, Num, same}
use Rattle.c_grammar.specs.Texts.{Item}
use Rattle.c_grammar.specs.Blocks.{Items, at, bare, is_directive}
use Rattle.c_grammar.specs.Choices.{closes, is_setting, opens}
use Rattle.c_grammar.specs.Constants.{Names, depth_behind, is_mark, is_name, is_number}
use Rattle.c_grammar.specs.FunctionHeads.{is_qualifier}
use Rattle.c_grammar.specs.Lasting.{begins_change}
use Rattle.c_grammar.specs.LineRules.{is_among}
use Rattle.c_grammar.specs.Loops.{is_word, steps}

-- ---- types

-- int, bool, or uint64_t
pub data Kind : Type 0 where
  Count Flag Wide : Kind

abbrev pub kind_of : Terminal → Option Kind
kind_of t =
    if same (Fixed Int) t then Some Count
    else (if same (Fixed Uint64) t then Some Wide
    else (if same (Name (codes "bool")) t || same (Name (codes "_Bool")) t then Some Flag else None))

-- ---- where a token stands

-- in no declaration; behind a type, and a star or none; behind a name that is declared, in so many brackets
pub data Mode : Type 0 where
  Free : Mode
  Typed : (kind : Kind) (star : Bool) → Mode
  Listed : (kind : Kind) (brackets : ℕ) → Mode

-- in no head; behind the word for; behind that and a bracket, or the type there; behind the word main; in its brackets
pub data Heading : Type 0 where
  Out At In AtMain InMain : Heading

-- and in so many round brackets and blocks; whether ++ or -- stands before it
pub record State : Type 0 where
  pub mode : Mode
  pub heading : Heading
  pub round : ℕ
  pub depth : ℕ
  pub stepped : Bool

abbrev pub begin : State
begin = record { mode = Free; heading = Out; round = 0; depth = 0; stepped = false }

abbrev pub opens_any : Item Terminal → Bool
opens_any i = opens i || is_mark sign.OpenBrace i

abbrev pub closes_any : Item Terminal → Bool
closes_any i = closes i || is_mark sign.CloseBrace i

abbrev pub behind_type : Kind → Bool → Item Terminal → Mode
behind_type k star i =
    if is_mark sign.Star i then Typed k true
    else (if is_qualifier i.terminal then Typed k star
    else (if is_name i.terminal then Listed k 0 else Free))

abbrev pub behind_listed : Kind → ℕ → Item Terminal → Mode
behind_listed k n i =
    if opens_any i then Listed k (n + 1)
    else (if closes_any i then (if n == 0 then Free else Listed k (n - 1))
    else (if is_mark sign.Comma i && (n == 0) then Typed k false else Listed k n))

abbrev pub behind_mode : Mode → Item Terminal → Mode
behind_mode Free i = Free
behind_mode (Typed k star) i = behind_type k star i
behind_mode (Listed k n) i = behind_listed k n i

abbrev pub mode_by : Mode → Item Terminal → Option Kind → Mode
mode_by m i None = behind_mode m i
mode_by m i (Some k) = Typed k false

abbrev pub mode_behind : Mode → Item Terminal → Mode
mode_behind m i = if is_mark sign.Semicolon i then Free else mode_by m i (kind_of i.terminal)

abbrev pub behind_heading : Heading → Item Terminal → Heading
behind_heading Out i = Out
behind_heading At i = if is_mark sign.OpenParen i then In else Out
behind_heading In i = if is_some (kind_of i.terminal) then In else Out
behind_heading AtMain i = if is_mark sign.OpenParen i then InMain else Out
behind_heading InMain i = if is_mark sign.CloseParen i then Out else InMain

abbrev pub heading_behind : Heading → Item Terminal → Heading
heading_behind h i =
    if same (Fixed For) i.terminal then At else (if same (Fixed Main) i.terminal then AtMain else behind_heading h i)

abbrev pub round_behind : ℕ → Item Terminal → ℕ
round_behind n i = if is_mark sign.OpenParen i then n + 1 else (if is_mark sign.CloseParen i then n - 1 else n)

abbrev pub behind : State → Item Terminal → State
behind s i = record {
  mode = mode_behind s.mode i;
  heading = heading_behind s.heading i;
  round = round_behind s.round i;
  depth = depth_behind i.terminal s.depth;
  stepped = steps i;
}

-- ---- what is declared, and what is changed

-- what a parameter takes: a number of the type int, cells of that type, or anything else
pub data Taken : Type 0 where
  Number Cells Any : Taken

-- a function, and what its parameters take
pub record Called : Type 0 where
  pub name : List ℕ
  pub takes : List Taken

-- names of loops, and of those whose heads have no type; of what is declared by int, by uint64_t and by bool; of these by int the
-- scalars, the parameters that are numbers and the pointers; those that something changes, or that are no scalars, and those that
-- stay an int and may be negative; the functions; whether a number of 2^31 or more is defined, an enumeration and such a number
-- stand anywhere
pub record Found : Type 0 where
  pub heads : Names
  pub untyped : Names
  pub ints : Names
  pub wides : Names
  pub flags : Names
  pub scalars : Names
  pub parameters : Names
  pub pointers : Names
  pub varied : Names
  pub loose : Names
  pub functions : List Called
  pub defined : Bool
  pub enumerates : Bool
  pub large : Bool

abbrev pub nothing_found : Found
nothing_found = record {
  heads = [];
  untyped = [];
  ints = [];
  wides = [];
  flags = [];
  scalars = [];
  parameters = [];
  pointers = [];
  varied = [];
  loose = [];
  functions = [];
  defined = false;
  enumerates = false;
  large = false;
}

-- of each kind so many names are noted
abbrev pub most_names : ℕ
most_names = 1024

abbrev pub noted : List ℕ → Names → Names
noted x xs = if is_among xs x || nat_le most_names (length xs) then xs else x ∷ xs

abbrev pub next_is : (Item Terminal → Bool) → Items → Bool
next_is p [] = false
next_is p (i ∷ is) = p i

-- in a parameter stand the word int or not, and a star or bracket or not
abbrev pub taken_by : Bool → Bool → Taken
taken_by int star = if int then (if star then Cells else Number) else Any

-- behind the bracket of a head: what each parameter takes; whether that word, and a star or bracket, stand in it so far, and how
-- many brackets are open
abbrev pub takes : Bool → Bool → ℕ → Items → List Taken
takes int star d [] = []
takes int star d (i ∷ is) =
    if is_mark sign.CloseParen i then (if d == 0 then taken_by int star ∷ [] else takes int star (d - 1) is)
    else (if is_mark sign.OpenParen i then takes int true (d + 1) is
    else (if is_mark sign.Comma i && (d == 0) then taken_by int star ∷ takes false false 0 is
    else takes (int || same (Fixed Int) i.terminal) (star || (is_mark sign.Star i || is_mark sign.OpenBracket i)) d is))

abbrev pub behind_one : Items → Items
behind_one [] = []
behind_one (i ∷ is) = is

abbrev pub called_of : List ℕ → Items → Called
called_of x is = record { name = x; takes = takes false false 0 (behind_one is) }

abbrev pub with_function : State → List ℕ → Items → Found → Found
with_function s x is f =
    if (s.depth == 0) && ((s.round == 0) && (next_is (is_mark sign.OpenParen) is && nat_lt (length f.functions) most_names))
    then record f { functions = called_of x is ∷ f.functions } else f

-- below 2^31
abbrev pub is_short : ℕ → Bool
is_short n = nat_lt n (2 ^ 31)

abbrev pub is_large : Option ℕ → Bool
is_large (Some n) = not (is_short n)
is_large None = false

-- a name that stays an int, or one that is not declared
abbrev pub may_be_fixed : Found → List ℕ → Bool
may_be_fixed f x = is_among f.heads x || not (is_among f.varied x || (is_among f.wides x || is_among f.flags x))

abbrev pub is_operator : Item Terminal → Bool
is_operator i =
    is_mark sign.Plus i || is_mark sign.Minus i || is_mark sign.Star i || is_mark sign.Slash i || is_mark sign.Percent i ||
    is_mark sign.ShiftLeft i || is_mark sign.ShiftRight i || is_mark sign.Ampersand i || is_mark sign.Bar i ||
    is_mark sign.Caret i

abbrev pub is_round : Item Terminal → Bool
is_round i = is_mark sign.OpenParen i || is_mark sign.CloseParen i

abbrev pub is_fixed_terminal : Found → Terminal → Bool
is_fixed_terminal f (Name x) = may_be_fixed f x
is_fixed_terminal f (Num o) = true
is_fixed_terminal f t = false

abbrev pub ends : Item Terminal → Bool
ends i = is_mark sign.Semicolon i || is_mark sign.Comma i

-- up to the end of a value: numbers, such names and arithmetic
abbrev pub is_fixed : Found → Items → Bool
is_fixed f [] = false
is_fixed f (i ∷ is) =
    ends i || ((is_operator i || (is_round i || is_fixed_terminal f i.terminal)) && is_fixed f is)

abbrev pub is_loose_terminal : Found → Terminal → Bool
is_loose_terminal f (Name x) = is_among f.loose x || is_among f.wides x
is_loose_terminal f (Num o) = is_large o
is_loose_terminal f t = false

-- a difference, a large number or a name of which that is not known stands in the value
abbrev pub is_loose : Found → Items → Bool
is_loose f [] = false
is_loose f (i ∷ is) =
    not (ends i) && (is_mark sign.Minus i || (is_loose_terminal f i.terminal || is_loose f is))

-- a scalar with a value
abbrev pub given : List ℕ → Items → Found → Found
given x is f =
    if is_fixed f is then (if is_loose f is then record f { loose = noted x f.loose } else f)
    else record f { varied = noted x f.varied }

abbrev pub scalar : State → List ℕ → Items → Found → Found
scalar s x is f =
    if nat_lt 0 s.round then record f { parameters = noted x f.parameters }
    else (if next_is (is_mark sign.Equal) is then given x (behind_one is) f else record f { varied = noted x f.varied })

-- a name that is declared by int, outside of the head of a loop
abbrev pub counted : State → Bool → List ℕ → Items → Found → Found
counted s star x is f =
    if star then record f { pointers = noted x f.pointers; varied = noted x f.varied }
    else (if next_is opens is then record f { varied = noted x f.varied }
    else scalar s x is (record f { scalars = noted x f.scalars }))

abbrev pub with_kind : Kind → List ℕ → Found → Found
with_kind Count x f = record f { ints = noted x f.ints }
with_kind Flag x f = record f { flags = noted x f.flags }
with_kind Wide x f = record f { wides = noted x f.wides }

abbrev pub declared_by : Kind → State → Bool → List ℕ → Items → Found → Found
declared_by Count s star x is f = counted s star x is f
declared_by k s star x is f = f

-- a name that stands elsewhere
abbrev pub used : State → List ℕ → Items → Found → Found
used s x is f = if s.stepped || begins_change is then record f { varied = noted x f.varied } else f

abbrev pub named_in : Mode → State → List ℕ → Items → Found → Found
named_in (Typed k star) s x is f = declared_by k s star x is (with_kind k x f)
named_in m s x is f = used s x is f

abbrev pub headed_in : Mode → List ℕ → Found → Found
headed_in (Typed k star) x f = with_kind k x f
headed_in m x f = record f { untyped = noted x f.untyped }

abbrev pub named_by : Heading → State → List ℕ → Items → Found → Found
named_by In s x is f = headed_in s.mode x (record f { heads = noted x f.heads })
named_by InMain s x is f = f
named_by h s x is f = named_in s.mode s x is f

abbrev pub named : State → List ℕ → Items → Found → Found
named s x is f = named_by s.heading s x is (with_function s x is f)

abbrev pub is_enumeration : List ℕ → Bool
is_enumeration x = bytes_eq x (codes "enum")

abbrev pub large_lexeme : Lexeme → Bool
large_lexeme (Numbered o) = is_large o
large_lexeme t = false

abbrev pub any_large : List Lexeme → Bool
any_large [] = false
any_large (t ∷ ts) = large_lexeme t || any_large ts

abbrev pub found_in : Terminal → State → Items → Found → Found
found_in (Name x) s is f =
    if is_some (kind_of (Name x)) || is_qualifier (Name x) then f
    else (if is_enumeration x then record f { enumerates = true } else named s x is f)
found_in (Num o) s is f = record f { large = f.large || is_large o }
found_in (Line ts) s is f = record f { defined = f.defined || any_large ts }
found_in t s is f = f

abbrev pub found_from : State → Found → Items → Found
found_from s f [] = f
found_from s f (i ∷ is) = found_from (behind s i) (found_in i.terminal s is f) is

abbrev pub found : Items → Found
found is = found_from begin nothing_found is

abbrev pub fits : Names → Bool
fits xs = nat_lt (length xs) most_names

-- all names are noted
abbrev pub all_fit : Found → Bool
all_fit f =
    fits f.heads && (fits f.untyped && (fits f.ints && (fits f.wides && (fits f.flags && (fits f.scalars && (fits f.parameters &&
    (fits f.pointers && (fits f.varied && (fits f.loose && nat_lt (length f.functions) most_names)))))))))

-- ---- what is small

-- declared by int alone, and no name of a loop
abbrev pub is_own : Found → List ℕ → Bool
is_own f x =
    is_among f.ints x && (not (is_among f.wides x) && (not (is_among f.flags x) && (not (is_among f.heads x) &&
    not (is_among f.pointers x && is_among f.scalars x))))

-- its type is to be uint64_t
abbrev pub converts : Found → List ℕ → Bool
converts f x = is_own f x && (is_among f.varied x || is_among f.parameters x)

-- no constant is large
abbrev pub small_constants : Found → Bool
small_constants f = not f.defined && not (f.enumerates && f.large)

abbrev pub is_small_name : Found → List ℕ → Bool
is_small_name f x =
    if is_among f.wides x then false
    else (if is_among f.flags x then not (is_among f.ints x)
    else (if is_among f.ints x then converts f x || not (is_among f.loose x) else small_constants f))

-- what is looser binds less: arithmetic, comparisons, operators on bits, logical ones
abbrev pub is_arithmetic : Item Terminal → Bool
is_arithmetic i =
    is_mark sign.Plus i || is_mark sign.Minus i || is_mark sign.Star i || is_mark sign.Slash i || is_mark sign.Percent i ||
    is_mark sign.ShiftLeft i || is_mark sign.ShiftRight i

abbrev pub is_comparison : Item Terminal → Bool
is_comparison i =
    is_mark sign.EqualEqual i || is_mark sign.NotEqual i || is_mark sign.Less i || is_mark sign.LessEqual i ||
    is_mark sign.Greater i || is_mark sign.GreaterEqual i

abbrev pub is_of_bits : Item Terminal → Bool
is_of_bits i = is_mark sign.Ampersand i || is_mark sign.Caret i || is_mark sign.Bar i

abbrev pub is_logical : Item Terminal → Bool
is_logical i = is_mark sign.AndAnd i || is_mark sign.OrOr i

abbrev pub rank_of : Item Terminal → Option ℕ
rank_of i =
    if is_arithmetic i then Some 0
    else (if is_comparison i then Some 1
    else (if is_of_bits i then Some 2
    else (if is_logical i then Some 3 else None)))

-- what has been read of an expression in brackets: the rank of its loosest operator, whether all operands are small and nothing
-- is taken away, and whether what may be chosen before it is small
pub record Part : Type 0 where
  pub rank : ℕ
  pub alone : Bool
  pub before : Bool

abbrev pub nothing_read : Part
nothing_read = record { rank = 0; alone = true; before = true }

-- a comparison and a logical value are 0 or 1, whatever their operands
abbrev pub is_small : Part → Bool
is_small p = p.before && (p.alone || (p.rank == 1 || p.rank == 3))

abbrev pub with_rank : ℕ → Item Terminal → Part → Part
with_rank r i p = record { rank = max p.rank r; alone = p.alone && not (is_mark sign.Minus i); before = p.before }

abbrev pub with_operand : Bool → Part → Part
with_operand small p = record { rank = p.rank; alone = p.alone && small; before = p.before }

-- behind a condition, of which nothing is asked
abbrev pub chosen : Part → Part
chosen p = record { rank = 0; alone = true; before = p.before }

-- behind what is chosen where it holds
abbrev pub otherwise : Part → Part
otherwise p = record { rank = 0; alone = true; before = is_small p }

abbrev pub is_short_number : Option ℕ → Bool
is_short_number (Some n) = is_short n
is_short_number None = false

abbrev pub operand_on : Found → Part → Item Terminal → Terminal → Option Part
operand_on f p i (Name x) = Some (with_operand (is_small_name f x) p)
operand_on f p i (Num o) = Some (with_operand (is_short_number o) p)
operand_on f p i t =
    if is_mark sign.Bang i then Some p else (if is_mark sign.Tilde i then Some (with_operand false p) else None)

abbrev pub chosen_on : Found → Part → Item Terminal → Option Part
chosen_on f p i =
    if is_mark sign.Question i then Some (chosen p)
    else (if is_mark sign.Colon i then Some (otherwise p) else operand_on f p i i.terminal)

abbrev pub by_rank : Found → Part → Item Terminal → Option ℕ → Option Part
by_rank f p i (Some r) = Some (with_rank r i p)
by_rank f p i None = chosen_on f p i

-- with the next token, if the value may go on so
abbrev pub token_on : Found → Part → Item Terminal → Option Part
token_on f p i = by_rank f p i (rank_of i)

abbrev pub skipped : ℕ → Item Terminal → ℕ
skipped n i = if opens i then suc (suc n) else (if closes i then n else suc n)

-- an index begins, or what is passed to a function
abbrev pub begins_skip : Bool → Item Terminal → Bool
begins_skip named i = is_mark sign.OpenBracket i || (named && is_mark sign.OpenParen i)

abbrev pub ends_value : Item Terminal → Bool
ends_value i = ends i || is_mark sign.CloseBrace i

abbrev pub Rest : Type 0
Rest = List Part → Part → ℕ → Bool → Bool

abbrev pub closed : List Part → Part → Rest → Bool
closed [] p go = is_small p
closed (o ∷ os) p go = go os (with_operand (is_small p) o) 0 false

abbrev pub is_only : List Part → Bool
is_only [] = true
is_only ps = false

abbrev pub goes_on : List Part → Option Part → Bool → Rest → Bool
goes_on os None named go = false
goes_on os (Some p) named go = go os p 0 named

abbrev pub value_on : Found → List Part → Part → Bool → Item Terminal → Rest → Bool
value_on f os p named i go =
    if begins_skip named i then go os p 1 false
    else (if is_mark sign.OpenParen i then go (p ∷ os) nothing_read 0 false
    else (if is_mark sign.CloseParen i then closed os p go
    else (if ends_value i then is_only os && is_small p
    else goes_on os (token_on f p i) (is_name i.terminal) go)))

-- the value that goes on with these tokens is small: in such brackets, the innermost first, with so many that are open in an
-- index or a call; whether a name stands before it
abbrev pub value_from : Found → List Part → Part → ℕ → Bool → Items → Bool
value_from f os p n named [] = false
value_from f os p (suc n) named (i ∷ is) = value_from f os p (skipped n i) false is
value_from f os p zero named (i ∷ is) = value_on f os p named i (λ os p n named. value_from f os p n named is)

abbrev pub is_small_value : Found → Items → Bool
is_small_value f is = value_from f [] nothing_read 0 false is

abbrev pub is_small_terminal : Found → Terminal → Bool
is_small_terminal f (Name x) = is_small_name f x
is_small_terminal f (Num o) = is_short_number o
is_small_terminal f t = false

abbrev pub is_listed_small : Found → Item Terminal → Bool
is_listed_small f i =
    is_mark sign.Comma i ||
    (is_round i || (is_small_terminal f i.terminal || (is_arithmetic i && not (is_mark sign.Minus i))))

-- the values of a list, up to its end
abbrev pub are_small : Found → Items → Bool
are_small f [] = false
are_small f (i ∷ is) = is_mark sign.CloseBrace i || (is_listed_small f i && are_small f is)

abbrev pub is_small_given : Found → Items → Bool
is_small_given f [] = false
is_small_given f (i ∷ is) = if is_mark sign.OpenBrace i then are_small f is else is_small_value f (i ∷ is)

abbrev pub wanted : List Taken → Taken
wanted [] = Any
wanted (t ∷ ts) = t

abbrev pub further : List Taken → List Taken
further [] = []
further (t ∷ ts) = ts

abbrev pub name_of : Terminal → List ℕ
name_of (Name x) = x
name_of t = []

-- the name that is all of an argument, or none
abbrev pub alone : Items → List ℕ
alone (i ∷ j ∷ is) = if is_mark sign.Comma j || closes j then name_of i.terminal else []
alone is = []

-- an array or a pointer whose cells are to be uint64_t
abbrev pub has_cells : Found → List ℕ → Bool
has_cells f x = converts f x && not (is_among f.scalars x)

-- what is passed is a small number for one, or no cells of another type for such cells
abbrev pub is_passed : Found → Taken → Items → Bool
is_passed f Number is = is_small_value f is
is_passed f Cells is = not (is_among f.wides (alone is))
is_passed f Any is = not (has_cells f (alone is))

-- so is all that is passed; whether the next token begins such an argument, in so many brackets
abbrev pub passes : Found → List Taken → Bool → ℕ → Items → Bool
passes f ts begins d [] = true
passes f ts begins d (i ∷ is) =
    (not begins || is_passed f (wanted ts) (i ∷ is)) &&
    (if opens i then passes f ts false (d + 1) is
    else (if closes i then (d == 0) || passes f ts false (d - 1) is
    else (if is_mark sign.Comma i && (d == 0) then passes f (further ts) true 0 is else passes f ts false d is)))

abbrev pub function_of : List Called → List ℕ → Option (List Taken)
function_of [] x = None
function_of (c ∷ cs) x = if bytes_eq c.name x then Some c.takes else function_of cs x

-- ---- what is assigned

-- the name before a token, and whether its cell stands there; those before brackets that are open; whether what is returned
-- has to be small; in how many blocks
pub record Left : Type 0 where
  pub name : List ℕ
  pub cell : Bool
  pub outer : Names
  pub returns : Bool
  pub depth : ℕ

abbrev pub nothing_left : Left
nothing_left = record { name = []; cell = false; outer = []; returns = false; depth = 0 }

abbrev pub innermost : Names → List ℕ
innermost [] = []
innermost (x ∷ xs) = x

abbrev pub without_innermost : Names → Names
without_innermost [] = []
without_innermost (x ∷ xs) = xs

abbrev pub name_behind : Left → Item Terminal → List ℕ
name_behind l i = if is_mark sign.CloseBracket i then innermost l.outer else name_of i.terminal

abbrev pub outer_behind : Left → Item Terminal → Names
outer_behind l i =
    if is_mark sign.OpenBracket i then l.name ∷ l.outer
    else (if is_mark sign.CloseBracket i then without_innermost l.outer
    else (if is_mark sign.Semicolon i then [] else l.outer))

abbrev pub returns_by : Found → Left → Terminal → Items → Bool
returns_by f l (Name x) is = if (l.depth == 0) && next_is (is_mark sign.OpenParen) is then converts f x else l.returns
returns_by f l t is = not (same (Fixed Main) t) && l.returns

abbrev pub left_behind : Found → Left → Item Terminal → Items → Left
left_behind f l i is = record {
  name = name_behind l i;
  cell = is_mark sign.CloseBracket i;
  outer = outer_behind l i;
  returns = returns_by f l i.terminal is;
  depth = depth_behind i.terminal l.depth;
}

-- what is assigned is a number of the type int
abbrev pub assigns : Found → Left → Bool
assigns f l = converts f l.name && (l.cell || not (is_among f.pointers l.name))

abbrev pub next_converts : Found → Items → Bool
next_converts f [] = false
next_converts f (i ∷ is) = converts f (name_of i.terminal)

abbrev pub fine_call : Found → Option (List Taken) → Items → Bool
fine_call f None is = true
fine_call f (Some ts) is = passes f ts true 0 (behind_one is)

abbrev pub fine_name : Found → Left → List ℕ → Items → Bool
fine_name f l x is =
    if bytes_eq x (codes "return") then not l.returns || is_small_value f is
    else (if nat_lt 0 l.depth && next_is (is_mark sign.OpenParen) is then fine_call f (function_of f.functions x) is else true)

abbrev pub fine_mark : Found → Left → Item Terminal → Items → Bool
fine_mark f l i is =
    if is_setting i.terminal then not (assigns f l) || (not (is_mark sign.MinusEqual i) && is_small_given f is)
    else (if is_mark sign.MinusMinus i then not (assigns f l) && not (next_converts f is)
    else (if is_mark sign.FormatInt i then is_small_value f is else true))

-- a token, with those behind it, gives nothing of the type int a value that is not small
abbrev pub is_fine : Found → Left → Item Terminal → Terminal → Items → Bool
is_fine f l i (Name x) is = fine_name f l x is
is_fine f l i t is = fine_mark f l i is

abbrev pub all_fine : Found → Left → Items → Bool
all_fine f l [] = true
all_fine f l (i ∷ is) = is_fine f l i i.terminal is && all_fine f (left_behind f l i is) is

-- ---- the tokens

-- the name that a type, or a comma of a declaration, stands before
abbrev pub named_behind : Items → List ℕ
named_behind [] = []
named_behind (i ∷ is) =
    if is_mark sign.Star i || is_qualifier i.terminal then named_behind is else name_of i.terminal

-- the word sizeof; that and a bracket
pub data Sized : Type 0 where
  Unsized IsSizeof Sizing : Sized

abbrev pub behind_sized : Sized → Item Terminal → Sized
behind_sized IsSizeof i = if is_mark sign.OpenParen i then Sizing else Unsized
behind_sized z i = Unsized

abbrev pub sized_behind : Sized → Item Terminal → Sized
sized_behind z i = if is_word (codes "sizeof") i then IsSizeof else behind_sized z i

abbrev pub is_sizing : Sized → Bool
is_sizing Sizing = true
is_sizing z = false

-- where the token stands, whether the type of the declaration is to be uint64_t, the name that stands before the token, and the
-- one that is given what is read, or none
pub record Place : Type 0 where
  pub state : State
  pub sized : Sized
  pub wide : Bool
  pub name : List ℕ
  pub given : List ℕ

abbrev pub first_place : Place
first_place = record { state = begin; sized = Unsized; wide = false; name = []; given = [] }

-- int * )
abbrev pub is_cast : Items → Bool
is_cast (i ∷ j ∷ is) = is_mark sign.Star i && is_mark sign.CloseParen j
is_cast is = false

abbrev pub is_in_main : Heading → Bool
is_in_main InMain = true
is_in_main h = false

-- the bytes of such a number are those of a cell that is given to a name: sizeof(int)
abbrev pub sizes : Found → Place → Items → Bool
sizes f p is = is_sizing p.sized && (next_is (is_mark sign.CloseParen) is && converts f p.given)

-- this word int is uint64_t
abbrev pub widens : Found → Place → Items → Bool
widens f p is =
    not (is_in_main p.state.heading) && (converts f (named_behind is) || (is_cast is || sizes f p is))

abbrev pub type_at : Bool → Item Terminal → Item Terminal
type_at wide i = if wide then at i (Fixed Uint64) else at i (Fixed Int)

abbrev pub is_listed : Mode → Bool
is_listed (Listed Count zero) = true
is_listed m = false

-- the comma behind a declared name
abbrev pub parts : Place → Item Terminal → Bool
parts p i = is_listed p.state.mode && ((p.state.round == 0) && is_mark sign.Comma i)

abbrev pub same_type : Bool → Bool → Bool
same_type true b = b
same_type false b = not b

abbrev pub put_comma : Found → Place → Item Terminal → Items → Items
put_comma f p i is =
    let wide = converts f (named_behind is) in
    if same_type wide p.wide then i ∷ [] else at i (Mark sign.Semicolon) ∷ type_at wide i ∷ []

abbrev pub is_zero : Terminal → Bool
is_zero (Num (Some n)) = n == 0
is_zero t = false

-- = 0, behind which a declaration ends or goes on
abbrev pub is_zero_given : Item Terminal → Items → Bool
is_zero_given i (n ∷ e ∷ is) = is_mark sign.Equal i && (is_zero n.terminal && ends e)
is_zero_given i is = false

-- the first value of a name of loops, which it has without that too
abbrev pub is_needless : Found → Place → Item Terminal → Items → Bool
is_needless f p i is =
    is_listed p.state.mode && ((p.state.round == 0) && (is_among f.untyped p.name && is_zero_given i is))

abbrev pub put : Found → Place → Item Terminal → Items → Items
put f p i is =
    if same (Fixed Int) i.terminal then (if widens f p is then at i (Fixed Uint64) else i) ∷ []
    else (if parts p i then put_comma f p i is else (if is_mark sign.FormatInt i then [] else i ∷ []))

abbrev pub wide_behind : Found → Place → Item Terminal → Items → Bool
wide_behind f p i is =
    if same (Fixed Int) i.terminal then widens f p is
    else (if parts p i then converts f (named_behind is) else p.wide)

abbrev pub given_behind : Place → Item Terminal → List ℕ
given_behind p i = if is_mark sign.Equal i then p.name else (if is_mark sign.Semicolon i then [] else p.given)

abbrev pub place_behind : Found → Place → Item Terminal → Items → Place
place_behind f p i is =
    record {
      state = behind p.state i;
      sized = sized_behind p.sized i;
      wide = wide_behind f p i is;
      name = name_of i.terminal;
      given = given_behind p i;
    }

abbrev pub Onward : Type 0
Onward = Place → ℕ → Items

abbrev pub put_on : Found → Place → ℕ → Item Terminal → Items → Onward → Items
put_on f p (suc k) i is go = go (place_behind f p i is) k
put_on f p zero i is go =
    if is_needless f p i is then go (place_behind f p i is) 1 else put f p i is ++ go (place_behind f p i is) 0

-- the tokens, of which k more are left out
abbrev pub retyped : Found → Place → ℕ → Items → Items
retyped f p k [] = []
retyped f p k (i ∷ is) =
    if is_directive i.terminal then i ∷ retyped f p k is
    else put_on f p k i (bare is) (λ p k. retyped f p k is)

abbrev pub retyped_by : Found → Items → Items → Items
retyped_by f bared is =
    if all_fit f && all_fine f nothing_left bared then retyped f first_place 0 is else is

-- all tokens, with uint64_t for int where each value is small
abbrev pub of_one_type : Items → Items
of_one_type is = retyped_by (found (bare is)) (bare is) is
