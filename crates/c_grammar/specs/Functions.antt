-- Functions that stand before main: a call is the body of the function in a block of its own, with what was passed for its
-- parameters. Where a function is defined it is left out.
use Rattle.std.specs.Prelude.{ℕ, zero, suc, ◌+◌, ◌-◌, ◌^◌, Bool, true, false, not, ◌&&◌, ◌||◌, ◌==◌, nat_lt, if◌then◌else◌, List, [], ◌∷◌, ◌++◌, length, take, drop, map, Option, Some, None, codes, is_some}
use Rattle.std.specs.Str.{bytes_eq}
use Rattle.c_tokens.specs.declared.kind.Sign.{Sign}
use Rattle.c_tokens.specs.declared.kind.Sign.TheVariants as sign
use Rattle.c_grammar.specs.Lexeme.{Lexeme, Worded, Numbered, Uint64, Int, Main}
use Rattle.c_grammar.specs.Terminal.{Terminal, Fixed, Mark, Name, Num, Line, same}
use Rattle.c_grammar.specs.Texts.{Item}
use Rattle.c_grammar.specs.Blocks.{Items, at, bare, is_directive}
use Rattle.c_grammar.specs.Changes.{is_mark, is_boundary, kind_of}
use Rattle.c_grammar.specs.Choices.{is_setting}
use Rattle.c_grammar.specs.Constants.{Names, is_among, is_name, with_terminal, worked}
use Rattle.c_grammar.specs.Expressions.{Nothing, Worked, Number, expression}
use Rattle.c_grammar.specs.LineForms.{is_sign}
use Rattle.c_grammar.specs.Presence.{closes_list, guarded, opens_list}
use Rattle.c_grammar.specs.FunctionHeads.{AStatus, AValue, Array, Declared, Gives, Headed, NoValue, Scalar, Small, Sort, head_at, is_array, is_type}
use Rattle.c_grammar.specs.Unspelled.{most_names, unknown, unspelled}

-- ---- functions

-- a parameter: the name that it has in the body, and whether the body assigns it
pub record Parameter : Type 0 where
  pub name : List ℕ
  pub sort : Sort
  pub assigned : Bool

pub record Function : Type 0 where
  pub name : List ℕ
  pub parameters : List Parameter
  pub body : Items
  -- what it gives; nothing of one without a value
  pub value : Items

abbrev pub Functions : Type 0
Functions = List Function

abbrev pub function_of : Functions → List ℕ → Option Function
function_of [] x = None
function_of (f ∷ fs) x = if bytes_eq f.name x then Some f else function_of fs x

-- ---- its names

-- what stands for a name: another name, or a number
pub data Put : Type 0 where
  Called : (x : List ℕ) → Put
  Counts : (n : ℕ) → Put

abbrev pub Puts : Type 0
Puts = List (List ℕ × Put)

abbrev pub put_for : Puts → List ℕ → Option Put
put_for [] x = None
put_for (p ∷ ps) x = if bytes_eq p.0 x then Some p.1 else put_for ps x

abbrev pub lexeme_for : List ℕ → Option Put → Lexeme
lexeme_for x (Some (Called y)) = Worded y
lexeme_for x (Some (Counts n)) = Numbered (Some n)
lexeme_for x None = Worded x

abbrev pub put_lexeme : Puts → Lexeme → Lexeme
put_lexeme ps (Worded x) = lexeme_for x (put_for ps x)
put_lexeme ps t = t

-- where a token of a directive line stands: before it are so many that stay as they are, so many brackets are open, and what
-- stands in them are names
pub record Spot : Type 0 where
  pub left : ℕ
  pub depth : ℕ
  pub names : Bool

abbrev pub spot_of : ℕ → ℕ → Bool → Spot
spot_of left depth names = record { left = left; depth = depth; names = names }

-- the words pragma omp stay
abbrev pub line_begins : Spot
line_begins = spot_of 2 0 false

-- whether a clause has a colon that stands in no brackets of its own: what is before that one is a word, as in map(to: A)
abbrev pub has_colon : ℕ → List Lexeme → Bool
has_colon d [] = false
has_colon d (t ∷ ts) =
    if opens_list t then has_colon (d + 1) ts
    else (if closes_list t then (if d == 0 then false else has_colon (d - 1) ts)
    else (if is_sign sign.Colon t && (d == 0) then true else has_colon d ts))

-- behind a token, before others
abbrev pub spot_behind : Spot → Lexeme → List Lexeme → Spot
spot_behind s t ts =
    if nat_lt 0 s.left then spot_of (s.left - 1) s.depth s.names
    else (if opens_list t then spot_of 0 (s.depth + 1) (if s.depth == 0 then not (has_colon 0 ts) else s.names)
    else (if closes_list t then spot_of 0 (s.depth - 1) s.names
    else spot_of 0 s.depth (s.names || (is_sign sign.Colon t && (s.depth == 1)))))

abbrev pub put_at : Puts → Spot → Lexeme → Lexeme
put_at ps s t = if nat_lt 0 s.left || (s.depth == 0) || not s.names then t else put_lexeme ps t

abbrev pub put_from : Puts → Spot → List Lexeme → List Lexeme
put_from ps s [] = []
put_from ps s (t ∷ ts) = put_at ps s t ∷ put_from ps (spot_behind s t ts) ts

abbrev pub put_line : Puts → List Lexeme → List Lexeme
put_line ps ts = put_from ps line_begins ts

abbrev pub terminal_for : List ℕ → Option Put → Terminal
terminal_for x (Some (Called y)) = Name y
terminal_for x (Some (Counts n)) = Num (Some n)
terminal_for x None = Name x

-- what a name is for which nothing stands
abbrev pub Others : Type 0
Others = List ℕ → List ℕ

-- a token with what stands for its name
abbrev pub put_terminal : Puts → Others → Terminal → Terminal
put_terminal ps other (Name x) = terminal_for (other x) (put_for ps x)
put_terminal ps other (Line ts) = Line (put_line ps ts)
put_terminal ps other t = t

abbrev pub put_all : Puts → Others → Items → Items
put_all ps other is = map (λ i. with_terminal i (put_terminal ps other i.terminal)) is

-- the names that are declared
abbrev pub name_in : Items → Names
name_in [] = []
name_in (i ∷ is) = of_terminal i.terminal
  where
    of_terminal : Terminal → Names
    of_terminal (Name x) = x ∷ []
    of_terminal _ = []

-- a type that a declaration begins with
abbrev pub begins_declaration : Terminal → Bool
begins_declaration t =
    same (Fixed Uint64) t || (same (Fixed Int) t || (same (Name (codes "bool")) t || same (Name (codes "_Bool")) t))

abbrev pub declared_in : Items → Names
declared_in [] = []
declared_in (i ∷ is) = (if begins_declaration i.terminal then name_in is else []) ++ declared_in is

abbrev pub puts_from : ℕ → Names → Puts
puts_from k [] = []
puts_from k (x ∷ xs) = (x, Called (unspelled k)) ∷ puts_from (k + 1) xs

-- what names of types and numbers are in C
abbrev pub flag_names : Names
flag_names = codes "bool" ∷ codes "_Bool" ∷ codes "true" ∷ codes "false" ∷ []

-- a name that is known before the function, which no other in it hides, stays
abbrev pub other_name : Names → Others
other_name known x = if is_among known x || is_among flag_names x then x else unknown

-- ---- what a body assigns

abbrev pub is_assigning : Terminal → Bool
is_assigning t = same (Mark sign.Equal) t || is_some (kind_of t)

abbrev pub is_step : Terminal → Bool
is_step t = same (Mark sign.PlusPlus) t || same (Mark sign.MinusMinus) t

-- behind the name stands what assigns it, or before it ++ or --
abbrev pub is_assigned : List ℕ → Items → Bool
is_assigned x [] = false
is_assigned x (i ∷ is) = pair i.terminal is || is_assigned x is
  where
    pair : Terminal → Items → Bool
    pair t [] = false
    pair t (j ∷ js) =
        (same (Name x) t && is_assigning j.terminal) || (is_step t && same (Name x) j.terminal)

-- ---- a call

pub record Arguments : Type 0 where
  pub list : List Items
  pub len : ℕ

abbrev pub opens : Item Terminal → Bool
opens i = is_mark sign.OpenParen i || is_mark sign.OpenBracket i

abbrev pub closes : Item Terminal → Bool
closes i = is_mark sign.CloseParen i || is_mark sign.CloseBracket i

abbrev pub Asked : Type 0
Asked = ℕ → Items → List Items → Option Arguments

abbrev pub argument_closed : ℕ → Items → List Items → ℕ → Item Terminal → Asked → Option Arguments
argument_closed zero now done k i go =
    if is_mark sign.CloseParen i then Some (record { list = done ++ now ∷ []; len = k }) else None
argument_closed (suc d) now done k i go = go d (now ++ i ∷ []) done

abbrev pub argument_on : ℕ → Items → List Items → ℕ → Item Terminal → Asked → Option Arguments
argument_on depth now done k i go =
    if is_boundary i.terminal then None
    else (if opens i then go (depth + 1) (now ++ i ∷ []) done
    else (if closes i then argument_closed depth now done k i go
    else (if is_mark sign.Comma i && (depth == 0) then go 0 [] (done ++ now ∷ []) else go depth (now ++ i ∷ []) done)))

-- what stands between the brackets, with how many tokens up to the closing one
unfoldable pub arguments : ℕ → Items → List Items → ℕ → Items → Option Arguments
arguments depth now done k [] = None
arguments depth now done k (i ∷ is) =
    argument_on depth now done (k + 1) i (λ d now done. arguments d now done (k + 1) is)

-- what is passed: declarations before the body, and what stands for parameters in it
pub record Passed : Type 0 where
  pub before : Items
  pub puts : Puts

abbrev pub stands_for : List ℕ → Put → Option Passed
stands_for x p = Some (record { before = []; puts = (x, p) ∷ [] })

abbrev pub is_whole : Items → Option Worked → Option ℕ
is_whole is (Some (Number k n)) = if k == length is then Some n else None
is_whole is _ = None

-- the number that a constant expression has
abbrev pub constant_in : Items → Option ℕ
constant_in is = is_whole is (expression [] false Nothing [] 0 (bare is))

-- a local of the block with the value
abbrev pub local : List ℕ → Items → Option Passed
local x [] = None
local x (i ∷ is) = Some (record {
  before = at i (Fixed Uint64) ∷ at i (Name x) ∷ at i (Mark sign.Equal) ∷ i ∷ (is ++ at i (Mark sign.Semicolon) ∷ []);
  puts = [];
})

-- a name that the function cannot assign
abbrev pub passes_one : Names → List ℕ → Item Terminal → Terminal → Option Passed
passes_one globals x i (Name y) = if is_among globals y then local x (i ∷ []) else stands_for x (Called y)
passes_one globals x i t = local x (i ∷ [])

abbrev pub passes_name : Names → List ℕ → Items → Option Passed
passes_name globals x (i ∷ []) = passes_one globals x i i.terminal
passes_name globals x is = local x is

abbrev pub passes_value : Names → List ℕ → Items → Option ℕ → Option Passed
passes_value globals x is (Some n) = stands_for x (Counts n)
passes_value globals x is None = passes_name globals x is

abbrev pub passes_one_array : List ℕ → Terminal → Option Passed
passes_one_array x (Name y) = stands_for x (Called y)
passes_one_array x t = None

abbrev pub passes_array : List ℕ → Items → Option Passed
passes_array x (i ∷ []) = passes_one_array x i.terminal
passes_array x is = None

abbrev pub passes_scalar : Names → Parameter → Items → Option Passed
passes_scalar globals p is = if p.assigned then local p.name is else passes_value globals p.name is (constant_in is)

-- a number of the type int stands for its parameter, which the function does not assign
abbrev pub stands_small : List ℕ → Option ℕ → Option Passed
stands_small x None = None
stands_small x (Some n) = if nat_lt n (2 ^ 31) then stands_for x (Counts n) else None

abbrev pub passes_small : Parameter → Items → Option Passed
passes_small p is = if p.assigned then None else stands_small p.name (constant_in is)

abbrev pub passes_as : Sort → Names → Parameter → Items → Option Passed
passes_as Scalar globals p is = passes_scalar globals p is
passes_as Array globals p is = passes_array p.name is
passes_as Small globals p is = passes_small p is

abbrev pub passes : Names → Parameter → Items → Option Passed
passes globals p is = passes_as p.sort globals p is

abbrev pub both : Option Passed → Option Passed → Option Passed
both (Some a) (Some b) = Some (record { before = a.before ++ b.before; puts = a.puts ++ b.puts })
both _ _ = None

abbrev pub nothing_passed : Passed
nothing_passed = record { before = []; puts = [] }

abbrev pub passed : Names → List Parameter → List Items → Option Passed
passed globals [] [] = Some nothing_passed
passed globals (p ∷ ps) (is ∷ args) = both (passes globals p is) (passed globals ps args)
passed globals _ _ = None

abbrev pub is_none : List Items → Bool
is_none ([] ∷ []) = true
is_none _ = false

-- nothing between the brackets is no argument
abbrev pub passed_to : Names → List Parameter → List Items → Option Passed
passed_to globals [] args = if is_none args then Some nothing_passed else None
passed_to globals ps args = passed globals ps args

abbrev pub stays : Others
stays x = x

abbrev pub has_value : Items → Bool
has_value [] = false
has_value (i ∷ is) = true

-- what stands before a call in its statement: what is assigned, with the sign that assigns it, or nothing where the call is the
-- statement; and tokens of the value
pub record Front : Type 0 where
  pub left : Items
  pub value : Items

abbrev pub alone : Front
alone = record { left = []; value = [] }

-- the value of a function, in brackets where other tokens stand beside the call
abbrev pub in_value : Item Terminal → Items → Items → Items → Items
in_value i front value back =
    if has_value front || has_value back
    then front ++ (at i (Mark sign.OpenParen) ∷ (value ++ (at i (Mark sign.CloseParen) ∷ back))) else value

-- the assignment, where there is one
abbrev pub given : Item Terminal → Front → Items → Items → Items
given i f value back =
    if has_value f.left then f.left ++ (in_value i f.value value back ++ at i (Mark sign.Semicolon) ∷ []) else []

-- the block of a call at the name of the function, with the assignment of its value; behind the call stand such tokens
abbrev pub block_of : Function → Item Terminal → Front → Items → Passed → Items
block_of f i front back p =
    at i (Mark sign.OpenBrace) ∷ (p.before ++ (put_all p.puts stays f.body ++
    (given i front (put_all p.puts stays f.value) back ++ at i (Mark sign.CloseBrace) ∷ [])))

-- how many tokens of the source it is, and what it is
pub record Expanded : Type 0 where
  pub len : ℕ
  pub items : Items

-- what may stand beside a call: numbers, names, and operators that have all their operands evaluated
abbrev pub is_strict : Sign → Bool
is_strict sign.Plus = true
is_strict sign.Minus = true
is_strict sign.Star = true
is_strict sign.Slash = true
is_strict sign.Percent = true
is_strict sign.ShiftLeft = true
is_strict sign.ShiftRight = true
is_strict sign.Ampersand = true
is_strict sign.Bar = true
is_strict sign.Caret = true
is_strict sign.Tilde = true
is_strict sign.Bang = true
is_strict sign.EqualEqual = true
is_strict sign.NotEqual = true
is_strict sign.Less = true
is_strict sign.LessEqual = true
is_strict sign.Greater = true
is_strict sign.GreaterEqual = true
is_strict sign.OpenParen = true
is_strict sign.CloseParen = true
is_strict sign.OpenBracket = true
is_strict sign.CloseBracket = true
is_strict s = false

abbrev pub is_beside : Terminal → Bool
is_beside (Num n) = true
is_beside (Name x) = true
is_beside (Mark s) = is_strict s
is_beside t = false

abbrev pub opens_call : Item Terminal → Items → Bool
opens_call i [] = false
opens_call i (j ∷ is) = is_name i.terminal && is_mark sign.OpenParen j

-- behind so many tokens, and n more, a call stands in the value
abbrev pub before_call : ℕ → Items → Option ℕ
before_call n [] = None
before_call n (i ∷ is) =
    if opens_call i is then Some n else (if is_beside i.terminal then before_call (n + 1) is else None)

-- so many tokens, and n more, stand between a call and the semicolon, and no other call
abbrev pub behind_call : ℕ → Items → Option ℕ
behind_call n [] = None
behind_call n (i ∷ is) =
    if is_mark sign.Semicolon i then Some n
    else (if is_beside i.terminal && not (opens_call i is) then behind_call (n + 1) is else None)

abbrev pub ends_here : Items → Bool
ends_here [] = false
ends_here (i ∷ is) = is_mark sign.Semicolon i

-- nothing stands behind a call that is the statement
abbrev pub back_len : Front → Items → Option ℕ
back_len f is = if has_value f.left then behind_call 0 is else (if ends_here is then Some 0 else None)

abbrev pub expanded_by : Function → Item Terminal → Front → Items → ℕ → Option Passed → Option Expanded
expanded_by f i front back len None = None
expanded_by f i front back len (Some p) = Some (record { len = len; items = block_of f i front back p })

-- behind the arguments, of which there are so many tokens
abbrev pub expanded_to : Names → Function → Item Terminal → Front → Items → Arguments → Option ℕ → Option Expanded
expanded_to globals f i front is a None = None
expanded_to globals f i front is a (Some n) =
    expanded_by f i front (take n (drop a.len is)) (a.len + 3 + n) (passed_to globals f.parameters a.list)

abbrev pub expanded_with : Names → Function → Item Terminal → Front → Items → Option Arguments → Option Expanded
expanded_with globals f i front is None = None
expanded_with globals f i front is (Some a) = expanded_to globals f i front is a (back_len front (drop a.len is))

abbrev pub expanded_of : Names → Option Function → Item Terminal → Front → Items → Option Expanded
expanded_of globals None i front is = None
expanded_of globals (Some f) i front is =
    if has_value front.left && not (has_value (bare f.value)) then None
    else expanded_with globals f i front is (arguments 0 [] [] 0 is)

abbrev pub expanded_at : Names → Functions → Terminal → Item Terminal → Front → Items → Option Expanded
expanded_at globals fs (Name x) i front is = expanded_of globals (function_of fs x) i front is
expanded_at globals fs t i front is = None

-- a call at the front, behind such tokens
abbrev pub call : Names → Functions → Front → Items → Option Expanded
call globals fs front (i ∷ o ∷ is) =
    if is_mark sign.OpenParen o then expanded_at globals fs i.terminal i front is else None
call globals fs front is = None

-- what may be given a value: a name, a cell, or a name with its type, which is first declared
abbrev pub index_out : ℕ → ℕ → (ℕ → Option ℕ) → Option ℕ
index_out (suc (suc d)) k go = go (suc d)
index_out d k go = Some k

abbrev pub index_on : ℕ → ℕ → Item Terminal → (ℕ → Option ℕ) → Option ℕ
index_on depth k i go =
    if is_boundary i.terminal then None
    else (if is_mark sign.OpenBracket i then go (depth + 1)
    else (if is_mark sign.CloseBracket i then index_out depth k go else go depth))

-- how many tokens there are up to the bracket that closes the first one
unfoldable pub index_len : ℕ → ℕ → Items → Option ℕ
index_len depth k [] = None
index_len depth k (i ∷ is) = index_on depth (k + 1) i (λ d. index_len d (k + 1) is)

abbrev pub equal_behind : Items → Option ℕ → Option ℕ
equal_behind is None = None
equal_behind is (Some k) = ends (drop k is)
  where
    ends : Items → Option ℕ
    ends [] = None
    ends (e ∷ es) = if is_setting e.terminal then Some (k + 1) else None

-- how many tokens of a name or a cell stand before the sign that assigns it
abbrev pub left_len : Items → Option ℕ
left_len (i ∷ j ∷ is) =
    if not (is_name i.terminal) then None
    else (if is_setting j.terminal then Some 1
    else (if is_mark sign.OpenBracket j then equal_behind (j ∷ is) (index_len 0 0 (j ∷ is)) else None))
left_len is = None

abbrev pub later : ℕ → Items → Option Expanded → Option Expanded
later k before None = None
later k before (Some e) = Some (record { len = k + e.len; items = before ++ e.items })

-- the first call in a value, behind what it is given to
abbrev pub given_call : Names → Functions → Items → Items → Option ℕ → Option Expanded
given_call globals fs left is None = None
given_call globals fs left is (Some n) =
    later n [] (call globals fs (record { left = left; value = take n is }) (drop n is))

abbrev pub valued_call : Names → Functions → Items → Items → Option Expanded
valued_call globals fs left is = given_call globals fs left is (before_call 0 is)

abbrev pub assigned_call : Names → Functions → Items → Option ℕ → Option Expanded
assigned_call globals fs is None = None
assigned_call globals fs is (Some k) = later (k + 1) [] (valued_call globals fs (take (k + 1) is) (drop (k + 1) is))

-- uint64_t NAME = 0;
abbrev pub declaration : Item Terminal → Item Terminal → Items
declaration t x = t ∷ x ∷ at x (Mark sign.Equal) ∷ at x (Num (Some 0)) ∷ at x (Mark sign.Semicolon) ∷ []

abbrev pub declared_call : Names → Functions → Items → Option Expanded
declared_call globals fs (t ∷ x ∷ e ∷ is) =
    if same (Fixed Uint64) t.terminal && is_name x.terminal && is_mark sign.Equal e
    then later 3 (declaration t x) (valued_call globals fs (x ∷ e ∷ []) is) else None
declared_call globals fs is = None

abbrev pub first_some : Option Expanded → Option Expanded → Option Expanded
first_some None o = o
first_some (Some e) o = Some e

-- the statement that these tokens begin with, if it is a call
abbrev pub expansion : Names → Functions → Items → Option Expanded
expansion globals fs is =
    first_some (call globals fs alone is)
    (first_some (declared_call globals fs is) (assigned_call globals fs is (left_len is)))

-- ---- statements with their calls

abbrev pub Statements : Type 0
Statements = Bool → ℕ → ℕ → Items

abbrev pub in_room : Item Terminal → ℕ → Option Expanded → Statements → Items
in_room i room None go = i ∷ go (is_boundary i.terminal) room 0
in_room i room (Some e) go =
    if nat_lt (length (bare e.items)) room then e.items ++ go true (room - length (bare e.items)) (e.len - 1)
    else i ∷ go (is_boundary i.terminal) room 0

abbrev pub statement_on : Names → Functions → Bool → ℕ → ℕ → Item Terminal → Items → Statements → Items
statement_on globals fs begins room (suc k) i is go = go begins room k
statement_on globals fs begins room zero i is go =
    in_room i room (if begins then expansion globals fs (i ∷ is) else None) go

-- a statement begins; there is room for so many tokens more, directives aside; k tokens are left out
unfoldable pub called : Names → Functions → Bool → ℕ → ℕ → Items → Items
called globals fs begins room k [] = []
called globals fs begins room k (i ∷ is) =
    if is_directive i.terminal then i ∷ called globals fs begins room k is
    else statement_on globals fs begins room k i (bare is) (λ b r k. called globals fs b r k is)

-- ---- the source

-- so many tokens may be put in for calls, and be in bodies of functions
abbrev pub most_expanded : ℕ
most_expanded = 131072

-- so many directives in a row may stand in a body; each further one stays outside of it
abbrev pub most_lines : ℕ
most_lines = 16

-- a function may know so many names
abbrev pub most_known : ℕ
most_known = 1026

-- what is known outside of functions, which of the names that no source can spell comes next, and for how many tokens
-- there is room
pub record Known : Type 0 where
  pub functions : Functions
  pub globals : Names
  pub next : ℕ
  pub room : ℕ

-- words of C that a body may have, which are names here
abbrev pub words : Names
words = codes "while" ∷ codes "continue" ∷ []

abbrev pub nothing_known : Known
nothing_known = record { functions = []; globals = words; next = 1; room = most_expanded }

-- the front of the body, and what is returned at its end
pub record Returned : Type 0 where
  pub front : Items
  pub value : Items

-- behind the last semicolon stand directives alone
abbrev pub value_ended : Items → Items → Items → Option Returned
value_ended front value is =
    if has_value (bare value) && not (has_value (bare is))
    then Some (record { front = front; value = value ++ is }) else None

abbrev pub value_at : Items → Items → Items → Option Returned
value_at front value [] = None
value_at front value (i ∷ is) =
    if is_mark sign.Semicolon i then value_ended front value is
    else (if is_boundary i.terminal then None else value_at front (value ++ i ∷ []) is)

abbrev pub returned : Items → Items → Option Returned
returned front [] = None
returned front (i ∷ is) =
    if same (Name (codes "return")) i.terminal then value_at front [] is else returned (front ++ i ∷ []) is

-- what is returned is an expression, which does nothing else
abbrev pub without_value : Option Returned → Option Returned
without_value None = None
without_value (Some r) = Some (record { front = r.front; value = [] })

abbrev pub returned_by : Gives → Items → Option Returned
returned_by NoValue body = Some (record { front = body; value = [] })
returned_by AValue body = returned [] body
returned_by AStatus body = without_value (returned [] body)

abbrev pub parameters_from : ℕ → Items → List Declared → List Parameter
parameters_from k body [] = []
parameters_from k body (d ∷ ds) =
    record { name = unspelled k; sort = d.sort; assigned = is_assigned d.name body } ∷ parameters_from (k + 1) body ds

-- the names of parameters that are arrays
abbrev pub array_names : ℕ → List Declared → Names
array_names k [] = []
array_names k (d ∷ ds) = (if is_array d.sort then unspelled k ∷ [] else []) ++ array_names (k + 1) ds

abbrev pub names_in : Headed → Items → Names
names_in h body = map (λ d. d.name) h.declared ++ declared_in (bare body)

abbrev pub known_names : Known → Names
known_names k = k.globals ++ map (λ f. f.name) k.functions

-- the function with its names and calls
abbrev pub function_with : Known → Headed → Returned → Function
function_with k h r =
    let puts = puts_from k.next (names_in h r.front) in
    record {
      name = h.name;
      parameters = parameters_from k.next (bare r.front) h.declared;
      body = called k.globals k.functions true k.room 0
          (guarded (array_names k.next h.declared) (put_all puts (other_name (known_names k)) r.front));
      value = put_all puts (other_name (known_names k)) r.value;
    }

abbrev pub may_be_added : Known → Headed → Items → Bool
may_be_added k h front =
    not (is_among (known_names k) h.name) && nat_lt (length (known_names k)) most_known &&
    nat_lt (k.next + length (names_in h front)) most_names

abbrev pub with_function : Known → ℕ → Function → Known
with_function k names f = record {
  functions = k.functions ++ f ∷ [];
  globals = k.globals;
  next = k.next + names;
  room = k.room - length (bare f.body);
}

abbrev pub added : Known → Headed → Option Returned → Option Known
added k h None = None
added k h (Some r) =
    if may_be_added k h r.front then Some (with_function k (length (names_in h r.front)) (function_with k h r)) else None

-- outside of functions, where a declaration may begin; in the head of one, of which so many tokens are left; in its body, in
-- so many blocks, behind so many directives in a row
pub data Where : Type 0 where
  Outside : (begins : Bool) → Where
  InHead : (head : Headed) (raw : Items) (left : ℕ) → Where
  InBody : (head : Headed) (raw body : Items) (depth lines : ℕ) → Where

abbrev pub Onward : Type 0
Onward = Known → Where → Items

abbrev pub with_name : Known → Item Terminal → Items → Known
with_name k i is = record {
  functions = k.functions;
  globals = k.globals ++ (if same (Fixed Uint64) i.terminal then name_in is else []);
  next = k.next;
  room = k.room;
}

abbrev pub plain : Known → Item Terminal → Items → Onward → Items
plain k i is go = i ∷ go (with_name k i is) (Outside (is_boundary i.terminal))

abbrev pub headed_or : Known → Item Terminal → Items → Option Headed → Onward → Items
headed_or k i is None go = plain k i is go
headed_or k i is (Some h) go = go k (InHead h (i ∷ []) h.len)

abbrev pub is_specifier : Terminal → Bool
is_specifier t = same (Name (codes "static")) t || same (Name (codes "inline")) t

abbrev pub specifies : Items → Bool
specifies [] = false
specifies (i ∷ is) = is_specifier i.terminal || is_type i.terminal

abbrev pub outside : Known → Bool → Item Terminal → Items → Onward → Items
outside k false i is go = plain k i is go
outside k true i is go =
    if is_specifier i.terminal && specifies is then go k (Outside true)
    else headed_or k i is (head_at i.terminal is) go

abbrev pub in_head : Known → Headed → Items → ℕ → Onward → Items
in_head k h raw (suc (suc n)) go = go k (InHead h raw (suc n))
in_head k h raw _ go = go k (InBody h raw [] 0 0)

-- behind the last brace; what is no function stays as it is
abbrev pub closed : Known → Items → Option Known → Onward → Items
closed k raw None go = raw ++ go k (Outside true)
closed k raw (Some l) go = go l (Outside true)

abbrev pub out_of_body : Known → Headed → Items → Items → ℕ → Item Terminal → Onward → Items
out_of_body k h raw body zero i go = closed k raw (added k h (returned_by h.gives body)) go
out_of_body k h raw body (suc d) i go = go k (InBody h raw (body ++ i ∷ []) d 0)

abbrev pub in_body : Known → Headed → Items → Items → ℕ → Item Terminal → Onward → Items
in_body k h raw body depth i go =
    if is_mark sign.OpenBrace i then go k (InBody h raw (body ++ i ∷ []) (depth + 1) 0)
    else (if is_mark sign.CloseBrace i then out_of_body k h raw body depth i go
    else go k (InBody h raw (body ++ i ∷ []) depth 0))

abbrev pub token_in : Known → Where → Item Terminal → Items → Onward → Items
token_in k (Outside begins) i is go = outside k begins i is go
token_in k (InHead h raw n) i is go = in_head k h (raw ++ i ∷ []) n go
token_in k (InBody h raw body depth lines) i is go = in_body k h (raw ++ i ∷ []) body depth i go

-- a directive in a body belongs to it
abbrev pub line_in : Known → Where → Item Terminal → Onward → Items
line_in k (InBody h raw body depth lines) i go =
    if nat_lt lines most_lines then go k (InBody h (raw ++ i ∷ []) (body ++ i ∷ []) depth (lines + 1))
    else i ∷ go k (InBody h raw body depth lines)
line_in k place i go = i ∷ go k place

abbrev pub raw_in : Where → Items
raw_in (Outside begins) = []
raw_in (InHead h raw n) = raw
raw_in (InBody h raw body depth lines) = raw

abbrev pub main_follows : Items → Bool
main_follows [] = false
main_follows (j ∷ js) = same (Fixed Main) j.terminal

abbrev pub is_main : Where → Item Terminal → Items → Bool
is_main (Outside begins) i is = same (Fixed Int) i.terminal && main_follows is
is_main place i is = false

-- the tokens without functions, and with their calls
unfoldable pub defined : Known → Where → Items → Items
defined k place [] = raw_in place
defined k place (i ∷ is) =
    if is_directive i.terminal then line_in k place i (λ k p. defined k p is)
    else (if is_main place i (bare is) then i ∷ called k.globals k.functions false k.room 0 is
    else token_in k place i (bare is) (λ k p. defined k p is))

abbrev pub begins_function : Items → Bool
begins_function (i ∷ x ∷ o ∷ is) = is_type i.terminal && is_name x.terminal && is_mark sign.OpenParen o
begins_function is = false

-- a function may be defined
abbrev pub has_function : Items → Bool
has_function [] = false
has_function (i ∷ is) = begins_function (i ∷ is) || has_function is

abbrev pub is_static : Items → Bool
is_static [] = false
is_static (i ∷ is) = is_specifier i.terminal || is_static is

-- the tokens with functions expanded, and with the constants that are so in places where a number stands
abbrev pub expanded : Items → Items
expanded is =
    if has_function (bare is) || is_static (bare is)
    then worked [] [] 0 (defined nothing_known (Outside true) is) else is
