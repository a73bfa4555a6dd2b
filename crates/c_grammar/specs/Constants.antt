-- Constants: names that stand for numbers, and expressions of numbers where C wants a constant. They are worked out
-- before the grammar is asked, so that it sees a number wherever one of them stands.
use Rattle.std.specs.Prelude.{ℕ, zero, suc, ◌+◌, ◌-◌, Bool, true, false, not, ◌&&◌, ◌||◌, ◌==◌, nat_le, if◌then◌else◌, List, [], ◌∷◌, ◌++◌, length, map, drop, Option, Some, None, codes}
use Rattle.std.specs.Str.{bytes_eq}
use Rattle.c_tokens.specs.declared.kind.Sign.{Sign}
use Rattle.c_tokens.specs.declared.kind.Sign.TheVariants as sign
use Rattle.c_grammar.specs.Lexeme.{Lexeme, Placed, Uint64, For}
use Rattle.c_grammar.specs.Terminal.{Terminal, Fixed, Mark, Name, Num, Line, Unworked, End, same}
use Rattle.c_grammar.specs.Lines.{is_omp}
use Rattle.c_grammar.specs.Texts.{Item}
use Rattle.c_grammar.specs.Expressions.{Items, Values, value_of, put, Nothing, Worked, Number, Fault, expression, as_items, placed_of}
use Rattle.c_grammar.specs.LineForms.{line_in_full}
use Rattle.c_grammar.specs.Clauses.{clauses_in_full}
use Rattle.c_grammar.specs.Blocks.{is_directive, bare}

-- ---- where a constant expression may stand

-- what a token is, as far as it is asked
pub data Shape : Type 0 where
  Is : (t : Terminal) → Shape
  AnyName AnyNumber : Shape

abbrev pub is_name : Terminal → Bool
is_name (Name x) = true
is_name _ = false

abbrev pub is_number : Terminal → Bool
is_number (Num n) = true
is_number _ = false

abbrev pub has_shape : Shape → Terminal → Bool
has_shape (Is u) t = same u t
has_shape AnyName t = is_name t
has_shape AnyNumber t = is_number t

-- the last tokens, the last first, are of these shapes
abbrev pub ends_with : List Shape → List Terminal → Bool
ends_with [] ts = true
ends_with (s ∷ ss) [] = false
ends_with (s ∷ ss) (t ∷ ts) = has_shape s t && ends_with ss ts

abbrev pub sign_is : Sign → Shape
sign_is s = Is (Mark s)

abbrev pub const_word : Terminal
const_word = Name (codes "const")

abbrev pub enum_word : Terminal
enum_word = Name (codes "enum")

abbrev pub malloc_word : Terminal
malloc_word = Name (codes "malloc")

abbrev pub calloc_word : Terminal
calloc_word = Name (codes "calloc")

abbrev pub sizeof_word : Terminal
sizeof_word = Name (codes "sizeof")

-- const uint64_t NAME =
abbrev pub constant_value : List Shape
constant_value = sign_is sign.Equal ∷ AnyName ∷ Is (Fixed Uint64) ∷ Is const_word ∷ []

-- uint64_t NAME [
abbrev pub array_length : List Shape
array_length = sign_is sign.OpenBracket ∷ AnyName ∷ Is (Fixed Uint64) ∷ []

-- the same with NUM ] [ behind it
abbrev pub row_length : List Shape
row_length = sign_is sign.OpenBracket ∷ sign_is sign.CloseBracket ∷ AnyNumber ∷ array_length

-- the same with [ NUM ] before the last bracket
abbrev pub inner_length : List Shape
inner_length = sign_is sign.OpenBracket ∷ sign_is sign.CloseBracket ∷ AnyNumber ∷ row_length

-- for ( uint64_t NAME =, then NUM ; NAME <, then NUM ; NAME +=
abbrev pub loop_first : List Shape
loop_first = sign_is sign.Equal ∷ AnyName ∷ Is (Fixed Uint64) ∷ sign_is sign.OpenParen ∷ Is (Fixed For) ∷ []

abbrev pub loop_limit : Sign → List Shape
loop_limit s = sign_is s ∷ AnyName ∷ sign_is sign.Semicolon ∷ AnyNumber ∷ loop_first

abbrev pub loop_step : Sign → List Shape
loop_step s = sign_is sign.PlusEqual ∷ AnyName ∷ sign_is sign.Semicolon ∷ AnyNumber ∷ loop_limit s

-- an enumeration up to the bracket or comma before a name
abbrev pub in_enumeration : List Terminal → Bool
in_enumeration [] = false
in_enumeration (t ∷ []) = false
in_enumeration (t ∷ u ∷ []) = same (Mark sign.OpenBrace) t && same enum_word u
in_enumeration (t ∷ u ∷ v ∷ []) = same (Mark sign.OpenBrace) t && same enum_word u
in_enumeration (t ∷ u ∷ v ∷ x ∷ ts) =
    (same (Mark sign.OpenBrace) t && same enum_word u) ||
    (same (Mark sign.Comma) t && is_number u && same (Mark sign.Equal) v && is_name x && in_enumeration ts)

-- NAME = of an enumeration
abbrev pub enumerated_value : List Terminal → Bool
enumerated_value [] = false
enumerated_value (t ∷ []) = false
enumerated_value (t ∷ x ∷ ts) = same (Mark sign.Equal) t && is_name x && in_enumeration ts

-- an operator with a number on its right
abbrev pub divides : Sign → Bool
divides sign.Slash = true
divides sign.Percent = true
divides sign.ShiftLeft = true
divides sign.ShiftRight = true
divides _ = false

-- the same with = behind it
abbrev pub divides_to : Sign → Bool
divides_to sign.SlashEqual = true
divides_to sign.PercentEqual = true
divides_to sign.ShiftLeftEqual = true
divides_to sign.ShiftRightEqual = true
divides_to _ = false

abbrev pub behind_divider : List Terminal → Bool
behind_divider (Mark s ∷ ts) = divides s
behind_divider _ = false

abbrev pub behind_changing : List Terminal → Bool
behind_changing (Mark s ∷ ts) = divides_to s
behind_changing _ = false

-- calloc (
abbrev pub cell_count : List Shape
cell_count = sign_is sign.OpenParen ∷ Is calloc_word ∷ []

-- malloc (
abbrev pub first_factor : List Shape
first_factor = sign_is sign.OpenParen ∷ Is malloc_word ∷ []

-- the same with sizeof ( uint64_t ) *, with sizeof ( * NAME ) *, and with sizeof * NAME * behind it
abbrev pub behind_type_size : List Shape
behind_type_size =
    sign_is sign.Star ∷ sign_is sign.CloseParen ∷ Is (Fixed Uint64) ∷ sign_is sign.OpenParen ∷ Is sizeof_word ∷ first_factor

abbrev pub behind_cell_size : List Shape
behind_cell_size =
    sign_is sign.Star ∷ sign_is sign.CloseParen ∷ AnyName ∷ sign_is sign.Star ∷ sign_is sign.OpenParen ∷ Is sizeof_word ∷
    first_factor

abbrev pub behind_open_size : List Shape
behind_open_size = sign_is sign.Star ∷ AnyName ∷ sign_is sign.Star ∷ Is sizeof_word ∷ first_factor

-- NUM *, behind those
abbrev pub next_factor : List Shape → List Shape
next_factor ss = sign_is sign.Star ∷ AnyNumber ∷ ss

-- the factor behind these, or the next one
abbrev pub in_factors : List Shape → List Terminal → Bool
in_factors ss ts = ends_with ss ts || ends_with (next_factor ss) ts

-- one of the first factors of what malloc is asked for
abbrev pub wants_factor : List Terminal → Bool
wants_factor ts =
    in_factors first_factor ts || in_factors behind_type_size ts || in_factors behind_cell_size ts || in_factors behind_open_size ts

-- behind these tokens a constant expression may stand
abbrev pub wants_expression : List Terminal → Bool
wants_expression ts =
    ends_with constant_value ts || ends_with array_length ts || ends_with row_length ts || ends_with inner_length ts || ends_with loop_first ts ||
    ends_with (loop_limit sign.Less) ts || ends_with (loop_limit sign.LessEqual) ts || ends_with (loop_step sign.Less) ts || ends_with (loop_step sign.LessEqual) ts ||
    enumerated_value ts || behind_changing ts || ends_with cell_count ts

-- or, behind an operator of which the right side is a number, and where malloc is asked for a product, one in brackets
abbrev pub wanted : List Terminal → Option Bool
wanted ts =
    if wants_expression ts then Some false else (if behind_divider ts || wants_factor ts then Some true else None)

abbrev pub at_wanted : Values → Items → Option Bool → Option Worked
at_wanted vs is None = None
at_wanted vs is (Some single) = expression vs single Nothing [] 0 is

-- ---- constants

abbrev pub bound : List ℕ → Option ℕ → Values → Values
bound x None vs = vs
bound x (Some n) vs = (x, n) ∷ vs

-- the constant that the last token ends, if it ends one
abbrev pub ended_constant : Values → List Terminal → Values
ended_constant vs (t ∷ Num o ∷ e ∷ Name x ∷ ts) =
    if (same (Mark sign.Semicolon) t && ends_with constant_value (e ∷ Name x ∷ ts)) ||
    ((same (Mark sign.Comma) t || same (Mark sign.CloseBrace) t) && enumerated_value (e ∷ Name x ∷ ts))
    then bound x o vs else vs
ended_constant vs ts = vs

-- a line that defines a constant: its name and the value, or the operator that has none
pub data Definition : Type 0 where
  Defines : (name : List ℕ) (value : ℕ) → Definition
  Misdefines : (place : Item Terminal) → Definition

-- two tokens with nothing between them
abbrev pub is_pair : Sign → Sign → Item Terminal → Item Terminal → Bool
is_pair a b i j = same (Mark a) i.terminal && same (Mark b) j.terminal && (j.column == i.column + 1)

-- star and slash, and then the end of the line, and no star and slash before
abbrev pub ends_remark : Items → Bool
ends_remark [] = false
ends_remark (i ∷ []) = false
ends_remark (i ∷ j ∷ []) = false
ends_remark (i ∷ j ∷ k ∷ is) =
    if is_pair sign.Star sign.Slash i j then same End k.terminal else ends_remark (j ∷ k ∷ is)

-- the end of the line, or a comment that reaches it
abbrev pub is_remark : Items → Bool
is_remark [] = false
is_remark (i ∷ []) = same End i.terminal
is_remark (i ∷ j ∷ is) =
    same End i.terminal || is_pair sign.Slash sign.Slash i j || (is_pair sign.Slash sign.Star i j && ends_remark is)

abbrev pub defined : List ℕ → Items → Option Worked → Option Definition
defined x is None = None
defined x is (Some (Fault k p)) = Some (Misdefines p)
defined x is (Some (Number k n)) = if is_remark (drop k is) then Some (Defines x n) else None

-- a bracket right behind the name would make it one with parameters
abbrev pub has_parameters : ℕ → Items → Bool
has_parameters column [] = false
has_parameters column (i ∷ is) = same (Mark sign.OpenParen) i.terminal && (i.column == column)

-- define NAME and a number, a constant or an expression in brackets, which is so the same wherever the name stands; a comment
-- may follow
abbrev pub definition_in : Values → Items → Option Definition
definition_in vs [] = None
definition_in vs (d ∷ []) = None
definition_in vs (d ∷ i ∷ is) =
    if same (Name (codes "define")) d.terminal then name_defined i.terminal else None
  where
    name_defined : Terminal → Option Definition
    name_defined (Name x) =
        if has_parameters (i.column + length x) is then None
        else defined x is (expression vs true Nothing [] 0 is)
    name_defined _ = None

abbrev pub is_new : Option ℕ → Bool
is_new None = true
is_new (Some n) = false

abbrev pub new_only : Values → Option Definition → Option Definition
new_only vs None = None
new_only vs (Some (Misdefines p)) = Some (Misdefines p)
new_only vs (Some (Defines x n)) = if is_new (value_of vs x) then Some (Defines x n) else None

abbrev pub definition : Values → Item Terminal → Terminal → Option Definition
definition vs i (Line ts) = new_only vs (definition_in vs (as_items i.line (placed_of ts i.columns)))
definition vs i _ = None

-- ---- the lengths of the arrays

abbrev pub with_length : Terminal → List Terminal → Values → Values
with_length (Num (Some n)) (b ∷ Name x ∷ ts) ls =
    if ends_with array_length (b ∷ Name x ∷ ts) then (x, n) ∷ ls else ls
with_length t ts ls = ls

-- of those that are declared by these tokens
abbrev pub lengths : List Terminal → Values
lengths [] = []
lengths (t ∷ ts) = with_length t ts (lengths ts)

-- ---- the names that are declared

abbrev pub with_name : Terminal → List Terminal → List (List ℕ) → List (List ℕ)
with_name (Name x) (t ∷ ts) names = if same (Fixed Uint64) t then x ∷ names else names
with_name t ts names = names

-- by these tokens
abbrev pub declared : List Terminal → List (List ℕ)
declared [] = []
declared (t ∷ ts) = with_name t ts (declared ts)

-- ---- all tokens

-- the token with another for it
abbrev pub with_terminal : Item Terminal → Terminal → Item Terminal
with_terminal i t = record { terminal = t; line = i.line; column = i.column; columns = i.columns }

abbrev pub Onward : Type 0
Onward = Values → List Terminal → ℕ → Items

-- the token goes on, and k more are read with it
abbrev pub goes_on : Values → List Terminal → Item Terminal → ℕ → Onward → Items
goes_on vs past i k go = i ∷ go (ended_constant vs (i.terminal ∷ past)) (i.terminal ∷ past) k

abbrev pub front_two : List Lexeme → List Lexeme
front_two (t ∷ u ∷ ts) = t ∷ u ∷ []
front_two ts = []

abbrev pub behind_two : List Placed → List Placed
behind_two (p ∷ q ∷ ps) = ps
behind_two ps = []

abbrev pub with_tokens : Item Terminal → List Lexeme → List Placed → Item Terminal
with_tokens i ts ps = record {
  terminal = Line (front_two ts ++ map (λ p. p.lexeme) (behind_two ps));
  line = i.line;
  column = i.column;
  columns = map (λ p. p.column) ps;
}

-- the tokens of a directive line in full
abbrev pub line_tokens : Values → List Terminal → List Placed → List Placed
line_tokens vs past ps = line_in_full vs (lengths past) (clauses_in_full (declared past) (lengths past) ps)

-- a token with what stands for it: a number for a constant's name, a directive line in full
abbrev pub put_item : Values → List Terminal → Item Terminal → Terminal → Item Terminal
put_item vs past i (Line ts) =
    if is_omp ts then with_tokens i ts (line_tokens vs past (placed_of ts i.columns)) else i
put_item vs past i t = with_terminal i (put vs t)

-- a token by itself
abbrev pub plain : Values → List Terminal → Item Terminal → Onward → Items
plain vs past i go = goes_on vs past (put_item vs past i i.terminal) 0 go

abbrev pub expressed : Values → List Terminal → Item Terminal → Option Worked → Onward → Items
expressed vs past i None go = plain vs past i go
expressed vs past i (Some (Number k n)) go = goes_on vs past (with_terminal i (Num (Some n))) (k - 1) go
expressed vs past i (Some (Fault k p)) go = goes_on vs past (with_terminal p Unworked) (k - 1) go

abbrev pub read_on : Values → List Terminal → Item Terminal → Items → Option Definition → Onward → Items
read_on vs past i is (Some (Defines x n)) go = go ((x, n) ∷ vs) past 0
read_on vs past i is (Some (Misdefines p)) go = goes_on vs past (with_terminal p Unworked) 0 go
read_on vs past i is None go = expressed vs past i (at_wanted vs (i ∷ is) (wanted past)) go

abbrev pub work_on : ℕ → Values → List Terminal → Item Terminal → Items → Onward → Items
work_on (suc k) vs past i is go = go vs past k
work_on zero vs past i is go = read_on vs past i is (definition vs i i.terminal) go

-- the tokens with their constants worked out, of which k more belong to the one before
unfoldable pub worked : Values → List Terminal → ℕ → Items → Items
worked vs past k [] = []
worked vs past k (i ∷ is) =
    if is_directive i.terminal then put_item vs past i i.terminal ∷ worked vs past k is
    else work_on k vs past i (bare is) (λ vs past k. worked vs past k is)

-- ---- without the definitions

abbrev pub is_mark : Sign → Item Terminal → Bool
is_mark s i = same (Mark s) i.terminal

-- the names of the globals so far
abbrev pub Names : Type 0
Names = List (List ℕ)

abbrev pub is_among : Names → List ℕ → Bool
is_among [] x = false
is_among (y ∷ ys) x = bytes_eq y x || is_among ys x

-- a name that no global has
abbrev pub is_free : Names → Terminal → Bool
is_free names (Name x) = not (is_among names x)
is_free names t = false

abbrev pub is_unworked : Terminal → Bool
is_unworked Unworked = true
is_unworked _ = false

-- how many tokens uint64_t NAME = NUM; are, or those before an expression without a value
abbrev pub const_len : Names → Items → Option ℕ
const_len names (t ∷ x ∷ e ∷ n ∷ is) =
    if same (Fixed Uint64) t.terminal && is_free names x.terminal && is_mark sign.Equal e
    then (if is_unworked n.terminal then Some 3 else const_end n.terminal is) else None
  where
    const_end : Terminal → Items → Option ℕ
    const_end (Num n) (s ∷ is) = if is_mark sign.Semicolon s then Some 5 else None
    const_end n is = None
const_len names _ = None

-- the same of the constants of an enumeration, with its end, of which k tokens stand before
abbrev pub enumerators_len : Names → ℕ → Items → Option ℕ
enumerators_len names k (x ∷ e ∷ n ∷ c ∷ s ∷ is) =
    if is_free names x.terminal && is_mark sign.Equal e
    then (if is_unworked n.terminal then Some (k + 2)
    else (if is_number n.terminal && is_mark sign.Comma c then enumerators_len names (k + 4) (s ∷ is)
    else (if is_number n.terminal && is_mark sign.CloseBrace c && is_mark sign.Semicolon s then Some (k + 5) else None)))
    else None
enumerators_len names k _ = None

abbrev pub enum_len : Names → Items → Option ℕ
enum_len names [] = None
enum_len names (o ∷ is) = if is_mark sign.OpenBrace o then enumerators_len names 1 is else None

-- a definition of constants begins: how many more tokens it has
abbrev pub definition_len : Names → Terminal → Items → Option ℕ
definition_len names t is =
    if same const_word t then const_len names is else (if same enum_word t then enum_len names is else None)

-- the name behind a type
abbrev pub with_global : Terminal → Items → Names → Names
with_global t [] names = names
with_global t (i ∷ is) names = if same (Fixed Uint64) t then named i.terminal else names
  where
    named : Terminal → Names
    named (Name x) = x ∷ names
    named _ = names

abbrev pub depth_behind : Terminal → ℕ → ℕ
depth_behind t d =
    if same (Mark sign.OpenBrace) t then d + 1 else (if same (Mark sign.CloseBrace) t then d - 1 else d)

abbrev pub drop_on : Names → ℕ → Item Terminal → Items → Option ℕ → (Names → ℕ → ℕ → Items) → Items
drop_on names depth i is None go = i ∷ go (with_global i.terminal is names) (depth_behind i.terminal depth) 0
drop_on names depth i is (Some k) go =
    if nat_le depth 1 then go names depth k else i ∷ go (with_global i.terminal is names) (depth_behind i.terminal depth) 0

abbrev pub leave_on : ℕ → Names → ℕ → Item Terminal → Items → (Names → ℕ → ℕ → Items) → Items
leave_on (suc k) names depth i is go = go names depth k
leave_on zero names depth i is go = drop_on names depth i is (definition_len names i.terminal is) go

-- the tokens without the definitions of constants outside of blocks, and in the block of main; so many blocks are open, and k
-- more tokens are left out
unfoldable pub undefined : Names → ℕ → ℕ → Items → Items
undefined names depth k [] = []
undefined names depth k (i ∷ is) =
    if is_directive i.terminal then i ∷ undefined names depth k is
    else leave_on k names depth i (bare is) (λ n d k. undefined n d k is)
