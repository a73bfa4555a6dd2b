-- Arrays of two dimensions: the rows lie one behind the other. A second subscript has to be surely within its row, by the
-- numbers and the names of loops that it is made of. Of an array of three dimensions the first two are made one in the same
-- way, and what is left is one of two.
use Rattle.std.specs.Prelude.{ℕ, zero, suc, ◌+◌, ◌-◌, ◌*◌, Bool, true, false, not, ◌&&◌, ◌||◌, ◌==◌, nat_le, nat_lt, if◌then◌else◌, List, [], ◌∷◌, ◌++◌, map, take, drop, Option, Some, None, is_some}
use Rattle.std.specs.Str.{bytes_eq}
use Rattle.c_tokens.specs.declared.kind.Sign.TheVariants as sign
use Rattle.c_grammar.specs.Lexeme.{Lexeme, Signed, Worded, Numbered, Placed, Uint64}
use Rattle.c_grammar.specs.Terminal.{Terminal, Fixed, Mark, Name, Num, Line, same}
use Rattle.c_grammar.specs.Texts.{Item}
use Rattle.c_grammar.specs.Blocks.{Items, at, bare, is_directive}
use Rattle.c_grammar.specs.Changes.{is_mark}
use Rattle.c_grammar.specs.Constants.{with_terminal, with_tokens}
use Rattle.c_grammar.specs.Expressions.{Values, placed_of, value_of}
use Rattle.c_grammar.specs.Functions.{index_len}
use Rattle.c_grammar.specs.LineForms.{all_at, is_sign}
use Rattle.c_grammar.specs.Lines.{is_omp}

-- ---- which numbers an expression may be

-- from the first to the last
pub record Range : Type 0 where
  pub first : ℕ
  pub last : ℕ

abbrev pub range : ℕ → ℕ → Range
range a b = record { first = a; last = b }

-- any number below 2^64
abbrev pub anything : Range
anything = range 0 18446744073709551615

-- what may be 2^64 and more may be anything
abbrev pub fits : ℕ → ℕ → Range
fits a b = if nat_lt b 18446744073709551616 then range a b else anything

-- the newest of a name first
abbrev pub Ranges : Type 0
Ranges = List (List ℕ × Range)

abbrev pub range_of : Ranges → List ℕ → Range
range_of [] x = anything
range_of (r ∷ rs) x = if bytes_eq r.0 x then r.1 else range_of rs x

abbrev pub operand : Ranges → Terminal → Range
operand rs (Num (Some n)) = range n n
operand rs (Name x) = range_of rs x
operand rs t = anything

abbrev pub sum : Range → Range → Range
sum r s = fits (r.first + s.first) (r.last + s.last)

-- where the second is surely no larger
abbrev pub difference : Range → Range → Range
difference r s = if nat_le s.last r.first then range (r.first - s.last) (r.last - s.first) else anything

abbrev pub product : Range → Range → Range
product r s = fits (r.first * s.first) (r.last * s.last)

abbrev pub with_product : Bool → Range → Range → Range
with_product true r s = difference r s
with_product false r s = sum r s

-- ---- the second subscript

-- how many tokens it has, and which numbers it may be
pub record Index : Type 0 where
  pub len : ℕ
  pub range : Range

abbrev pub index : ℕ → Range → Option Index
index k r = Some (record { len = k; range = r })

-- behind an operand: the sum of what stands before its product, which is taken away or added, its product, and how many
-- tokens there were
abbrev pub OnOperand : Type 0
OnOperand = Range → Bool → Range → Option Index

abbrev pub operator_on : Ranges → Range → Bool → Range → ℕ → Item Terminal → Item Terminal → OnOperand → Option Index
operator_on rs s minus p k o i go =
    if is_mark sign.Star o then go s minus (product p (operand rs i.terminal))
    else (if is_mark sign.Plus o then go (with_product minus s p) false (operand rs i.terminal)
    else (if is_mark sign.Minus o then go (with_product minus s p) true (operand rs i.terminal) else None))

unfoldable pub index_from : Ranges → Range → Bool → Range → ℕ → Items → Option Index
index_from rs s minus p k [] = None
index_from rs s minus p k (o ∷ []) = if is_mark sign.CloseBracket o then index k (with_product minus s p) else None
index_from rs s minus p k (o ∷ i ∷ is) =
    if is_mark sign.CloseBracket o then index k (with_product minus s p)
    else operator_on rs s minus p k o i (λ s minus p. index_from rs s minus p (k + 2) is)

-- behind the bracket
abbrev pub index_in : Ranges → Items → Option Index
index_in rs [] = None
index_in rs (i ∷ is) = index_from rs (range 0 0) false (operand rs i.terminal) 1 is

abbrev pub len_below : ℕ → Option Index → Option ℕ
len_below m None = None
len_below m (Some i) = if nat_lt i.range.last m then Some i.len else None

-- how many tokens the subscript in brackets has that begins there, if it is surely below a number
abbrev pub second_len : Ranges → ℕ → Items → Option ℕ
second_len rs m [] = None
second_len rs m (o ∷ is) = if is_mark sign.OpenBracket o then len_below m (index_in rs is) else None

-- ---- all tokens

-- arrays with rows, each with how many cells a row has
abbrev pub Grids : Type 0
Grids = Values

-- of the brackets that are open, the innermost first: whether one is of a first subscript, and how many cells a row has
abbrev pub Open : Type 0
Open = List (Option ℕ)

abbrev pub Onward : Type 0
Onward = Grids → Ranges → Open → ℕ → Items

-- of a loop: NAME = NUM; NAME < NUM
abbrev pub loop_range : Items → Range
loop_range (x ∷ e ∷ a ∷ s ∷ y ∷ l ∷ b ∷ is) =
    if is_mark sign.Equal e && is_mark sign.Semicolon s && same x.terminal y.terminal
    then bounds a.terminal (is_mark sign.Less l) (is_mark sign.LessEqual l) b.terminal else anything
  where
    bounds : Terminal → Bool → Bool → Terminal → Range
    bounds (Num (Some a)) less equal (Num (Some b)) =
        if less && nat_lt a b then range a (b - 1) else (if equal && nat_le a b then range a b else anything)
    bounds a less equal b = anything
loop_range is = anything

abbrev pub named_range : Range → Ranges → Terminal → Ranges
named_range r rs (Name x) = (x, r) ∷ rs
named_range r rs t = rs

abbrev pub with_range : Items → Ranges → Ranges
with_range [] rs = rs
with_range (x ∷ is) rs = named_range (loop_range (x ∷ is)) rs x.terminal

-- behind the type: NAME [ NUM ] [ NUM ], and, where arrays of three dimensions are looked for, one more bracket
pub record Declared : Type 0 where
  pub name : List ℕ
  pub rows : ℕ
  pub columns : ℕ

abbrev pub declared_as : Terminal → Terminal → Terminal → Option Declared
declared_as (Name x) (Num (Some n)) (Num (Some m)) =
    if nat_lt (n * m) 18446744073709551616 then Some (record { name = x; rows = n; columns = m }) else None
declared_as t u v = None

abbrev pub opens_index : Items → Bool
opens_index [] = false
opens_index (i ∷ is) = is_mark sign.OpenBracket i

abbrev pub declared : Bool → Items → Option Declared
declared deep (x ∷ o ∷ n ∷ c ∷ p ∷ m ∷ d ∷ is) =
    if is_mark sign.OpenBracket o && is_mark sign.CloseBracket c && is_mark sign.OpenBracket p && is_mark sign.CloseBracket d &&
    (not deep || opens_index is)
    then declared_as x.terminal n.terminal m.terminal else None
declared deep is = None

-- the declaration of an array of one dimension with as many cells
abbrev pub flat_declaration : ℕ → Items → Items
flat_declaration cells (x ∷ o ∷ n ∷ c ∷ is) = x ∷ o ∷ with_terminal n (Num (Some cells)) ∷ c ∷ []
flat_declaration cells is = []

abbrev pub declared_on : Grids → Ranges → Open → Item Terminal → Items → Option Declared → Onward → Items
declared_on gs rs os i is None go = i ∷ go gs (with_range is rs) os 0
declared_on gs rs os i is (Some d) go =
    i ∷ (flat_declaration (d.rows * d.columns) is ++ go ((d.name, d.columns) ∷ gs) rs os 7)

-- the first subscript is multiplied
abbrev pub row_begins : ℕ → Item Terminal → Items
row_begins m o = o ∷ at o (Num (Some m)) ∷ at o (Mark sign.Star) ∷ at o (Mark sign.OpenParen) ∷ []

-- a second subscript, which is surely within the row, follows the first one
abbrev pub has_second : Ranges → ℕ → Items → Option ℕ → Bool
has_second rs m is None = false
has_second rs m is (Some k) = is_some (second_len rs m (drop k is))

-- no second subscript follows the first one
abbrev pub is_row : Items → Option ℕ → Bool
is_row is None = false
is_row is (Some k) = not (opens_index (drop k is))

-- a row by itself is no cell: its name stands twice, which is a fault there. So it does where two of three dimensions are made
-- one and the second subscript may leave its own, since the first two by themselves could else be taken for both of two
abbrev pub grid_on : Bool → Grids → Ranges → Open → Item Terminal → Items → Option ℕ → Onward → Items
grid_on deep gs rs os i [] m go = i ∷ go gs rs os 0
grid_on deep gs rs os i (o ∷ is) None go = i ∷ go gs rs os 0
grid_on deep gs rs os i (o ∷ is) (Some m) go =
    if is_mark sign.OpenBracket o && has_second rs m (o ∷ is) (index_len 0 0 (o ∷ is))
    then i ∷ (row_begins m o ++ go gs rs (Some m ∷ os) 1)
    else (if is_mark sign.OpenBracket o && (deep || is_row (o ∷ is) (index_len 0 0 (o ∷ is)))
    then i ∷ i ∷ go gs rs os 0 else i ∷ go gs rs os 0)

abbrev pub named_on : Bool → Grids → Ranges → Open → Item Terminal → Terminal → Items → Onward → Items
named_on deep gs rs os i (Name x) is go = grid_on deep gs rs os i is (value_of gs x) go
named_on deep gs rs os i t is go = i ∷ go gs rs os 0

-- the second subscript, with what closes it, is added
abbrev pub row_ends : Item Terminal → ℕ → Items → Items
row_ends i k is =
    at i (Mark sign.CloseParen) ∷ at i (Mark sign.Plus) ∷ at i (Mark sign.OpenParen) ∷
    (take k (drop 1 is) ++ (at i (Mark sign.CloseParen) ∷ i ∷ []))

abbrev pub added_on : Grids → Ranges → Open → Item Terminal → Items → Option ℕ → Onward → Items
added_on gs rs os i is None go = i ∷ go gs rs os 0
added_on gs rs os i is (Some k) go = row_ends i k is ++ go gs rs os (k + 2)

abbrev pub closing_on : Grids → Ranges → Open → Item Terminal → Items → Onward → Items
closing_on gs rs [] i is go = i ∷ go gs rs [] 0
closing_on gs rs (None ∷ os) i is go = i ∷ go gs rs os 0
closing_on gs rs (Some m ∷ os) i is go = added_on gs rs os i is (second_len rs m is) go

abbrev pub token_on : Bool → Grids → Ranges → Open → Item Terminal → Items → Onward → Items
token_on deep gs rs os i is go =
    if same (Fixed Uint64) i.terminal then declared_on gs rs os i is (declared deep is) go
    else (if is_mark sign.OpenBracket i then i ∷ go gs rs (None ∷ os) 0
    else (if is_mark sign.CloseBracket i then closing_on gs rs os i is go else named_on deep gs rs os i i.terminal is go))

abbrev pub flat_on : Bool → Grids → Ranges → Open → ℕ → Item Terminal → Items → Onward → Items
flat_on deep gs rs os (suc k) i is go = go gs rs os k
flat_on deep gs rs os zero i is go = token_on deep gs rs os i is go

-- ---- directive lines

-- where a token of a line stands: behind the name of an array with rows; in the brackets behind it, where a term begins or
-- not; behind these brackets; among so many tokens that are left out
pub data At : Type 0 where
  Elsewhere : At
  Named Behind : (columns : ℕ) → At
  Within : (columns : ℕ) (term : Bool) → At
  Left : (count : ℕ) → At

abbrev pub scaled : ℕ → Option ℕ → Option ℕ
scaled m None = None
scaled m (Some n) = if nat_lt (n * m) 18446744073709551616 then Some (n * m) else None

-- a whole row
abbrev pub is_whole_row : ℕ → List Lexeme → Bool
is_whole_row m (o ∷ Numbered (Some a) ∷ c ∷ Numbered (Some b) ∷ d ∷ ts) =
    is_sign sign.OpenBracket o && (a == 0) && is_sign sign.Colon c && (b == m) && is_sign sign.CloseBracket d
is_whole_row m ts = false

abbrev pub name_at : Grids → Lexeme → At
name_at gs (Worded x) = with_columns (value_of gs x)
  where
    with_columns : Option ℕ → At
    with_columns None = Elsewhere
    with_columns (Some m) = Named m
name_at gs t = Elsewhere

abbrev pub bound_at : ℕ → Lexeme → At
bound_at m t =
    if is_sign sign.CloseBracket t then Behind m
    else Within m (is_sign sign.Colon t || is_sign sign.Plus t || is_sign sign.Minus t)

-- a token at the beginning of a term, which is taken so many times
abbrev pub term_in_rows : ℕ → Placed → Lexeme → List Placed
term_in_rows m p (Numbered n) = record { lexeme = Numbered (scaled m n); column = p.column } ∷ []
term_in_rows m p (Worded x) = all_at p.column (Numbered (Some m) ∷ Signed sign.Star ∷ []) ++ p ∷ []
term_in_rows m p t = p ∷ []

-- a token behind a section, which begins no whole row. The bracket of another section stands twice, which is a fault there
abbrev pub no_row : Placed → List Placed
no_row p = if is_sign sign.OpenBracket p.lexeme then p ∷ p ∷ [] else p ∷ []

abbrev pub OnRows : Type 0
OnRows = At → List Placed

abbrev pub row_token : Grids → At → Placed → List Lexeme → OnRows → List Placed
row_token gs (Left (suc k)) p ts go = go (Left k)
row_token gs (Within m true) p ts go = term_in_rows m p p.lexeme ++ go (bound_at m p.lexeme)
row_token gs (Within m false) p ts go = p ∷ go (bound_at m p.lexeme)
row_token gs (Named m) p ts go =
    p ∷ go (if is_sign sign.OpenBracket p.lexeme then Within m true else name_at gs p.lexeme)
row_token gs (Behind m) p ts go =
    if is_whole_row m (p.lexeme ∷ ts) then go (Left 4) else no_row p ++ go (name_at gs p.lexeme)
row_token gs at p ts go = p ∷ go (name_at gs p.lexeme)

-- the tokens of a line, on which a section of an array with rows is one of rows
abbrev pub in_rows : Grids → At → List Placed → List Placed
in_rows gs at [] = []
in_rows gs at (p ∷ ps) = row_token gs at p (map (λ q. q.lexeme) ps) (λ at. in_rows gs at ps)

abbrev pub flat_line : Grids → Item Terminal → Terminal → Item Terminal
flat_line gs i (Line ts) =
    if is_omp ts then with_tokens i ts (in_rows gs Elsewhere (placed_of ts i.columns)) else i
flat_line gs i t = i

-- ---- all of them

-- the tokens with arrays of one dimension in the place of those of two, or, where it is deep, of two in the place of those of
-- three; k more are left out
abbrev pub flat : Bool → Grids → Ranges → Open → ℕ → Items → Items
flat deep gs rs os k [] = []
flat deep gs rs os k (i ∷ is) =
    if is_directive i.terminal then flat_line gs i i.terminal ∷ flat deep gs rs os k is
    else flat_on deep gs rs os k i (bare is) (λ gs rs os k. flat deep gs rs os k is)
