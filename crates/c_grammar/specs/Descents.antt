-- Loops that count down are written as loops that count up: for (int i = S; i >= E; i--) as for (int i = E; i <= S; i++), and of
-- i > E the first is E + 1. The turns come in the same order, and what stands for the name in the block is E + S - i. Names that
-- are visible at once differ, so a name in the block is the loop's. What stands for the name of a loop around is put first.
use Rattle.std.specs.Prelude.{ℕ, zero, suc, ◌+◌, ◌-◌, ◌^◌, ◌==◌, nat_le, nat_lt, Bool, true, false, not, ◌&&◌, ◌||◌, if◌then◌else◌, List, [], ◌∷◌, ◌++◌, length, map, take, drop, Option, Some, None, codes}
use Rattle.std.specs.Str.{bytes_eq}
use Rattle.c_tokens.specs.declared.kind.Sign.{Sign}
use Rattle.c_tokens.specs.declared.kind.Sign.TheVariants as sign
use Rattle.c_grammar.specs.Lexeme as lexeme
use Rattle.c_grammar.specs.Lexeme.{Lexeme, Worded, Numbered, Placed, Int, For}
use Rattle.c_grammar.specs.Terminal.{Terminal, Fixed, Mark, Name, Num, Line, same}
use Rattle.c_grammar.specs.Texts.{Item}
use Rattle.c_grammar.specs.Blocks.{Items, at, bare, is_directive}
use Rattle.c_grammar.specs.Constants.{is_mark, is_name, is_number, with_tokens}
use Rattle.c_grammar.specs.Counters.{is_type}
use Rattle.c_grammar.specs.Expressions.{placed_of}
use Rattle.c_grammar.specs.LineForms as lines
use Rattle.c_grammar.specs.LineForms.{is_sign}
use Rattle.c_grammar.specs.Lines.{is_omp}
use Rattle.c_grammar.specs.Loops.{is_word}
use Rattle.c_grammar.specs.Triangles.{Parts, begins_block, cut, max_head, max_open, name_of, names}

-- ---- the open blocks

-- a token of what stands for a name: a sign, a name, a number or a bad one
pub data Part : Type 0 where
  Signed : (s : Sign) → Part
  Called : (x : List ℕ) → Part
  Counted : (n : Option ℕ) → Part

-- an open block: of a loop that counts up and whose name is an int; of one that counts down, its name, whether that is an int,
-- and what stands for it
pub data Open : Type 0 where
  Plain : Open
  Small : (name : List ℕ) → Open
  Turned : (name : List ℕ) (small : Bool) (stands : List Part) → Open

-- what stands for a name
abbrev pub stands_in : List Open → List ℕ → Option (List Part)
stands_in [] x = None
stands_in (Plain ∷ os) x = stands_in os x
stands_in (Small y ∷ os) x = stands_in os x
stands_in (Turned y small ts ∷ os) x = if bytes_eq y x then Some ts else stands_in os x

-- the name is an int
abbrev pub is_small : List Open → List ℕ → Bool
is_small [] x = false
is_small (Plain ∷ os) x = is_small os x
is_small (Small y ∷ os) x = bytes_eq y x || is_small os x
is_small (Turned y small ts ∷ os) x = (small && bytes_eq y x) || is_small os x

-- ---- tokens outside of directive lines

abbrev pub terminal_of : Part → Terminal
terminal_of (Signed s) = Mark s
terminal_of (Called x) = Name x
terminal_of (Counted n) = Num n

-- that of a token of a bound
abbrev pub part_of : Terminal → Part
part_of (Mark s) = Signed s
part_of (Name x) = Called x
part_of (Num n) = Counted n
part_of t = Counted None

abbrev pub parts_of : Items → List Part
parts_of is = map (λ i. part_of i.terminal) is

abbrev pub all_at : Item Terminal → List Part → Items
all_at i ts = map (λ t. at i (terminal_of t)) ts

-- behind the token a sum may stand without brackets
abbrev pub before_sum : Item Terminal → Bool
before_sum i =
    is_mark sign.OpenBracket i || is_mark sign.Equal i || is_mark sign.Plus i || is_mark sign.Less i ||
    is_mark sign.LessEqual i || is_mark sign.NotEqual i

-- before these tokens it may
abbrev pub behind_sum : Items → Bool
behind_sum [] = true
behind_sum (i ∷ is) =
    is_mark sign.CloseBracket i || is_mark sign.Semicolon i || is_mark sign.Plus i || is_mark sign.Minus i

abbrev pub in_brackets : Item Terminal → Items → Items
in_brackets i is = at i (Mark sign.OpenParen) ∷ (is ++ at i (Mark sign.CloseParen) ∷ [])

-- a token, or what stands for it
abbrev pub stand : Bool → Item Terminal → Option (List Part) → Items
stand free i None = i ∷ []
stand free i (Some ts) = if free then all_at i ts else in_brackets i (all_at i ts)

abbrev pub stands_of : List Open → Terminal → Option (List Part)
stands_of os (Name x) = stands_in os x
stands_of os t = None

-- a token before others, behind one that lets a sum stand without brackets or not
abbrev pub put : List Open → Bool → Item Terminal → Items → Items
put os free i is = stand (free && behind_sum is) i (stands_of os i.terminal)

abbrev pub put_all : List Open → Bool → Items → Items
put_all os free [] = []
put_all os free (i ∷ is) = put os free i is ++ put_all os (before_sum i) is

-- ---- directive lines

abbrev pub lexeme_of : Part → Lexeme
lexeme_of (Signed s) = lexeme.Signed s
lexeme_of (Called x) = Worded x
lexeme_of (Counted n) = Numbered n

abbrev pub depth_behind : ℕ → Lexeme → ℕ
depth_behind d t =
    if is_sign sign.OpenBracket t then d + 1 else (if is_sign sign.CloseBracket t then d - 1 else d)

-- behind the token a sum may stand, in square brackets; a bound has no brackets
abbrev pub begins_term : Lexeme → Bool
begins_term t = is_sign sign.OpenBracket t || is_sign sign.Colon t || is_sign sign.Plus t

abbrev pub ends_term : List Placed → Bool
ends_term [] = false
ends_term (p ∷ ps) =
    is_sign sign.CloseBracket p.lexeme || is_sign sign.Colon p.lexeme || is_sign sign.Plus p.lexeme ||
    is_sign sign.Minus p.lexeme

-- where no sum may stand, a bracket is put before the name, which is a fault there
abbrev pub stand_on_line : Bool → Placed → Option (List Part) → List Placed
stand_on_line free p None = p ∷ []
stand_on_line free p (Some ts) =
    if free then lines.all_at p.column (map lexeme_of ts)
    else record { lexeme = lexeme.Signed sign.OpenParen; column = p.column } ∷ p ∷ []

abbrev pub stands_for : List Open → Lexeme → Option (List Part)
stands_for os (Worded x) = stands_in os x
stands_for os t = None

-- a token outside of square brackets, behind the word device or not: before the name of a loop that counts down, which is no
-- device, a second bracket is put, so that the fault is found there
abbrev pub put_bracket : Placed → Placed → Option (List Part) → List Placed
put_bracket p q None = p ∷ []
put_bracket p q (Some ts) = p ∷ record { lexeme = lexeme.Signed sign.OpenParen; column = q.column } ∷ []

abbrev pub put_outside : List Open → Bool → Placed → List Placed → List Placed
put_outside os device p [] = p ∷ []
put_outside os device p (q ∷ ps) =
    if device && is_sign sign.OpenParen p.lexeme then put_bracket p q (stands_for os q.lexeme) else p ∷ []

-- a token before others, with so many square brackets open
abbrev pub put_lexeme : List Open → ℕ → Bool → Placed → List Placed → List Placed
put_lexeme os d free p ps =
    if d == 0 then put_outside os free p ps else stand_on_line (free && ends_term ps) p (stands_for os p.lexeme)

-- behind the token, with so many square brackets open there, a sum may stand, or the bracket of a device
abbrev pub is_free : ℕ → Lexeme → Bool
is_free d t = if d == 0 then lexeme.same (Worded (codes "device")) t else begins_term t

abbrev pub put_on_line : List Open → ℕ → Bool → List Placed → List Placed
put_on_line os d free [] = []
put_on_line os d free (p ∷ ps) =
    put_lexeme os d free p ps ++
    put_on_line os (depth_behind d p.lexeme) (is_free (depth_behind d p.lexeme) p.lexeme) ps

abbrev pub line_for : List Open → Item Terminal → Terminal → Item Terminal
line_for os i (Line ts) =
    if is_omp ts then with_tokens i ts (put_on_line os 0 false (placed_of ts i.columns)) else i
line_for os i t = i

-- ---- the head of a loop, behind the word for

-- the name in ( TYPE NAME =
abbrev pub name_in : Items → Option (List ℕ)
name_in (o ∷ t ∷ x ∷ e ∷ is) =
    if is_mark sign.OpenParen o && is_type t.terminal && is_mark sign.Equal e then name_of x.terminal else None
name_in is = None

-- the type is int
abbrev pub small_in : Items → Bool
small_in (o ∷ t ∷ is) = same (Fixed Int) t.terminal
small_in is = false

abbrev pub is_operator : Item Terminal → Bool
is_operator i =
    is_mark sign.Plus i || is_mark sign.Minus i || is_mark sign.Star i || is_mark sign.Slash i || is_mark sign.Percent i

abbrev pub opens_round : Items → Bool
opens_round [] = false
opens_round (i ∷ is) = is_mark sign.OpenParen i

-- an operator, a number, or a name that is another one and is not called
abbrev pub is_part : List ℕ → Item Terminal → Items → Bool
is_part x i is =
    is_operator i || is_number i.terminal || (is_name i.terminal && not (is_word x i) && not (opens_round is))

-- these tokens are such, and round brackets, of which so many are open
abbrev pub are_parts : List ℕ → ℕ → Items → Bool
are_parts x d [] = d == 0
are_parts x d (i ∷ is) =
    if is_mark sign.OpenParen i then are_parts x (d + 1) is
    else (if is_mark sign.CloseParen i then nat_lt 0 d && are_parts x (d - 1) is
    else is_part x i is && are_parts x d is)

-- these tokens are a bound, as far as that is asked here
abbrev pub is_bound : List ℕ → Items → Bool
is_bound x [] = false
is_bound x (i ∷ is) = are_parts x 0 (i ∷ is)

abbrev pub above_zero : Terminal → Bool
above_zero (Num (Some n)) = nat_lt 0 n
above_zero t = false

-- one number, which is not 0
abbrev pub is_positive : Items → Bool
is_positive (i ∷ []) = above_zero i.terminal
is_positive is = false

-- no number or name that is of another type than int
abbrev pub is_int : List Open → Terminal → Bool
is_int os (Num (Some n)) = nat_lt n (2 ^ 31)
is_int os (Name x) = is_small os x
is_int os t = true

abbrev pub are_int : List Open → Items → Bool
are_int os [] = true
are_int os (i ∷ is) = is_int os i.terminal && are_int os is

-- in C the loop ends: what has no sign is always at least 0, and so is an int beside what has none
abbrev pub ends : List Open → Bool → Item Terminal → Items → Bool
ends os small c limit =
    is_mark sign.Greater c ||
    (is_mark sign.GreaterEqual c && (if small then are_int os limit else is_positive limit))

-- ; NAME -- ) { or ; -- NAME ) {
abbrev pub counts_down : List ℕ → Items → Bool
counts_down x (s ∷ a ∷ b ∷ c ∷ d ∷ is) =
    begins_block c d && ((is_word x a && is_mark sign.MinusMinus b) || (is_mark sign.MinusMinus a && is_word x b))
counts_down x is = false

-- ---- the loop

pub record Loop : Type 0 where
  pub parts : Parts
  pub name : List ℕ
  pub small : Bool
  -- from which number on it counts up, and up to which
  pub first : Items
  pub last : Items

-- + 1
abbrev pub one_more : Item Terminal → Items
one_more c = if is_mark sign.Greater c then at c (Mark sign.Plus) ∷ at c (Num (Some 1)) ∷ [] else []

-- where the two have no more tokens than that
abbrev pub loop_with : Parts → List ℕ → Bool → Items → Items → Option Loop
loop_with p x small first last =
    if nat_le (length first + length last) max_head
    then Some (record { parts = p; name = x; small = small; first = first; last = last }) else None

-- the parts are those of a loop that counts down
abbrev pub is_descent : List Open → Parts → List ℕ → Bool → Bool
is_descent os p x small =
    names x p.middle && is_bound x p.start && is_bound x p.limit && counts_down x p.back && ends os small p.compares p.limit

abbrev pub loop_named : List Open → Parts → Bool → Option (List ℕ) → Option Loop
loop_named os p small None = None
loop_named os p small (Some x) =
    if is_descent os p x small
    then loop_with p x small (put_all os true p.limit ++ one_more p.compares) (put_all os true p.start) else None

abbrev pub loop_of : List Open → Option Parts → Option Loop
loop_of os None = None
loop_of os (Some p) = loop_named os p (small_in p.front) (name_in p.front)

abbrev pub loop_in : List Open → Items → Option Loop
loop_in os is = if nat_lt (length os) max_open then loop_of os (cut (take max_head is)) else None

-- ---- what stands for it

abbrev pub upward_step : Item Terminal → Item Terminal
upward_step i = if is_mark sign.MinusMinus i then at i (Mark sign.PlusPlus) else i

-- ; NAME ++ ) {
abbrev pub step : Loop → Items
step l = map upward_step (take 5 l.parts.back)

abbrev pub head : Loop → Items
head l =
    let p : Parts = l.parts in
    p.front ++ (l.first ++ (p.middle ++ (at p.compares (Mark sign.LessEqual) ∷ (l.last ++ step l))))

-- in the block, for the name
abbrev pub stands : Loop → List Part
stands l = parts_of l.first ++ Signed sign.Plus ∷ (parts_of l.last ++ Signed sign.Minus ∷ Called l.name ∷ [])

-- how many tokens of the source its head has
abbrev pub len : Loop → ℕ
len l =
    length l.parts.front + length l.parts.start + length l.parts.middle + 1 + length l.parts.limit + 5

-- ---- all tokens

pub record State : Type 0 where
  pub blocks : List Open
  -- what the next brace opens
  pub next : Open
  -- a sum may stand without brackets
  pub free : Bool

abbrev pub begin : State
begin = record { blocks = []; next = Plain; free = false }

abbrev pub small_named : Option (List ℕ) → Open
small_named None = Plain
small_named (Some x) = Small x

-- the block of a loop that is as it was
abbrev pub block_of : Items → Open
block_of is = if small_in is then small_named (name_in is) else Plain

abbrev pub blocks_behind : State → Item Terminal → List Open
blocks_behind s i =
    if is_mark sign.OpenBrace i then s.next ∷ s.blocks
    else (if is_mark sign.CloseBrace i then drop 1 s.blocks else s.blocks)

abbrev pub next_behind : State → Item Terminal → Items → Open
next_behind s i is =
    if is_mark sign.OpenBrace i || is_mark sign.CloseBrace i then Plain
    else (if same (Fixed For) i.terminal then block_of is else s.next)

abbrev pub behind : State → Item Terminal → Items → State
behind s i is =
    record { blocks = blocks_behind s i; next = next_behind s i is; free = before_sum i }

abbrev pub inside : State → Loop → State
inside s l =
    record { blocks = Turned l.name l.small (stands l) ∷ s.blocks; next = Plain; free = false }

abbrev pub Onward : Type 0
Onward = State → ℕ → Items

abbrev pub turned_on : State → Item Terminal → Items → Option Loop → Onward → Items
turned_on s i is None go = put s.blocks s.free i is ++ go (behind s i is) 0
turned_on s i is (Some l) go = i ∷ (head l ++ go (inside s l) (len l))

-- such a loop begins
abbrev pub loop_at : State → Item Terminal → Items → Option Loop
loop_at s i is = if same (Fixed For) i.terminal then loop_in s.blocks is else None

abbrev pub upward_on : State → ℕ → Item Terminal → Items → Onward → Items
upward_on s zero i is go = turned_on s i is (loop_at s i is) go
upward_on s (suc k) i is go = go s k

-- the tokens, of which k more are left out
abbrev pub upward_in : State → ℕ → Items → Items
upward_in s k [] = []
upward_in s k (i ∷ is) =
    if is_directive i.terminal then line_for s.blocks i i.terminal ∷ upward_in s k is
    else upward_on s k i (bare is) (λ s k. upward_in s k is)

-- all tokens, with loops that count up in the place of these
abbrev pub upward : Items → Items
upward is = upward_in begin 0 is
