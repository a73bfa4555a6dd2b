-- Loops that end by a condition, and turns that end early. A loop while (c) whose condition bounds a scalar, which each turn
-- makes larger, has no more turns than the bound: it is a loop with so many turns, in which an if asks the condition. Where
-- an if in the block of a loop ends with continue, what stands behind it is its else.
use Rattle.std.specs.Prelude.{ℕ, zero, suc, ◌+◌, ◌-◌, ◌^◌, ◌==◌, nat_le, nat_lt, Bool, true, false, not, ◌&&◌, ◌||◌, if◌then◌else◌, List, [], ◌∷◌, ◌++◌, length, take, drop, Option, Some, None, codes}
use Rattle.c_tokens.specs.declared.kind.Sign.TheVariants as sign
use Rattle.c_grammar.specs.Lexeme.{Uint64, For, If, Else}
use Rattle.c_grammar.specs.Terminal.{Terminal, Fixed, Mark, Name, Num, same}
use Rattle.c_grammar.specs.Texts.{Item}
use Rattle.c_grammar.specs.Blocks.{Items, at, bare, braces_at, is_directive, is_else}
use Rattle.c_grammar.specs.Constants.{is_mark}
use Rattle.c_grammar.specs.Changes.{is_boundary}
use Rattle.c_grammar.specs.Choices.{brackets_behind, closes, is_setting, opens}

-- ---- the condition

abbrev pub is_word : List ℕ → Item Terminal → Bool
is_word x i = same (Name x) i.terminal

-- at most so many tokens stand in the brackets
abbrev pub max_between : ℕ
max_between = 510

-- the brackets close behind so many tokens, of which n are read, with b more brackets open
abbrev pub close_at : ℕ → ℕ → Items → Option ℕ
close_at n b [] = None
close_at n b (i ∷ is) =
    if nat_le max_between n then None
    else (if closes i && (b == 0) then Some n else close_at (n + 1) (brackets_behind i b) is)

-- no or, and no conditional operator, stands outside of brackets
abbrev pub is_joined : ℕ → Items → Bool
is_joined b [] = true
is_joined b (i ∷ is) =
    not ((b == 0) && (is_mark sign.OrOr i || is_mark sign.Question i)) && is_joined (brackets_behind i b) is

-- a scalar that is below a number where the condition holds
pub record Limit : Type 0 where
  pub name : List ℕ
  pub most : ℕ

abbrev pub limit_by : Terminal → Bool → Bool → Terminal → Option Limit
limit_by (Name x) less equal (Num (Some n)) =
    if less then Some (record { name = x; most = n })
    else (if equal && nat_lt n (2 ^ 64 - 1) then Some (record { name = x; most = n + 1 }) else None)
limit_by t less equal u = None

-- NAME < NUM or NAME <= NUM
abbrev pub limit_of : Item Terminal → Item Terminal → Item Terminal → Option Limit
limit_of x l n = limit_by x.terminal (is_mark sign.Less l) (is_mark sign.LessEqual l) n.terminal

-- that stands alone, or before && at the front
abbrev pub front_limit : Items → Option Limit
front_limit (x ∷ l ∷ n ∷ []) = limit_of x l n
front_limit (x ∷ l ∷ n ∷ a ∷ is) = if is_mark sign.AndAnd a then limit_of x l n else None
front_limit is = None

abbrev pub last_limit : Items → Option Limit
last_limit (a ∷ x ∷ l ∷ n ∷ []) = if is_mark sign.AndAnd a then limit_of x l n else None
last_limit is = None

-- behind && at the end
abbrev pub back_limit : Items → Option Limit
back_limit is = last_limit (drop (length is - 4) is)

abbrev pub one_of : Option Limit → Option Limit → Option Limit
one_of None o = o
one_of (Some l) o = Some l

abbrev pub limit_in : Items → Option Limit
limit_in is = if is_joined 0 is then one_of (front_limit is) (back_limit is) else None

-- ---- the block

abbrev pub is_named : Limit → Item Terminal → Bool
is_named l i = is_word l.name i

-- an amount by which no sum passes the numbers
abbrev pub is_amount : Limit → Terminal → Bool
is_amount l (Num (Some n)) = nat_lt 0 n && nat_le (l.most + n) (2 ^ 64)
is_amount l t = false

-- NAME ++ ; or ++ NAME ;
abbrev pub counts : Limit → Items → Bool
counts l (a ∷ b ∷ c ∷ is) =
    is_mark sign.Semicolon c && ((is_named l a && is_mark sign.PlusPlus b) || (is_mark sign.PlusPlus a && is_named l b))
counts l is = false

-- NAME += NUM ;
abbrev pub adds : Limit → Items → Bool
adds l (a ∷ b ∷ n ∷ c ∷ is) = is_named l a && is_mark sign.PlusEqual b && is_amount l n.terminal && is_mark sign.Semicolon c
adds l is = false

-- NAME = NAME + NUM ;
abbrev pub is_sum : Limit → Items → Bool
is_sum l (a ∷ e ∷ b ∷ p ∷ n ∷ c ∷ is) =
    is_named l a && is_mark sign.Equal e && is_named l b && is_mark sign.Plus p && is_amount l n.terminal &&
    is_mark sign.Semicolon c
is_sum l is = false

-- how many tokens follow the first of such a statement; 0 where there is none
abbrev pub step_len : Limit → Items → ℕ
step_len l is = if counts l is then 2 else (if adds l is then 3 else (if is_sum l is then 5 else 0))

abbrev pub steps : Item Terminal → Bool
steps i = is_mark sign.PlusPlus i || is_mark sign.MinusMinus i

-- the scalar is changed there
abbrev pub changes : Limit → Item Terminal → Items → Bool
changes l i [] = false
changes l i (j ∷ is) = (is_named l i && (is_setting j.terminal || steps j)) || (steps i && is_named l j)

-- so many blocks may be open in one another
abbrev pub max_open : ℕ
max_open = 16

-- of the block: how many blocks are open, whether a statement begins, and whether the scalar was made larger
pub record Seen : Type 0 where
  pub depth : ℕ
  pub starts : Bool
  pub grown : Bool

abbrev pub seen_at : ℕ → Bool → Bool → Seen
seen_at d starts grown = record { depth = d; starts = starts; grown = grown }

abbrev pub OnSeen : Type 0
OnSeen = Seen → ℕ → Bool

abbrev pub grows_by : Limit → Seen → Item Terminal → Items → ℕ → OnSeen → Bool
grows_by l s i is zero go = not (changes l i is) && go (seen_at s.depth (is_boundary i.terminal) s.grown) 0
grows_by l s i is (suc k) go = not s.grown && go (seen_at s.depth true true) (suc k)

abbrev pub step_at : Limit → Seen → Items → ℕ
step_at l s is = if s.starts && (s.depth == 0) then step_len l is else 0

abbrev pub grows_on : Limit → Seen → Item Terminal → Items → OnSeen → Bool
grows_on l s i is go =
    if is_mark sign.CloseBrace i then (if s.depth == 0 then s.grown else go (seen_at (s.depth - 1) true s.grown) 0)
    else (if is_mark sign.OpenBrace i then nat_lt s.depth max_open && go (seen_at (s.depth + 1) true s.grown) 0
    else (if is_word (codes "continue") i then false else grows_by l s i is (step_at l s (i ∷ is)) go))

abbrev pub grows_past : Limit → Seen → ℕ → Item Terminal → Items → OnSeen → Bool
grows_past l s zero i is go = grows_on l s i is go
grows_past l s (suc k) i is go = go s k

-- one statement of the block makes the scalar larger, and nothing else in it changes it; k more tokens are passed over
abbrev pub grows : Limit → Seen → ℕ → Items → Bool
grows l s k [] = false
grows l s k (i ∷ is) = grows_past l s k i is (λ s k. grows l s k is)

abbrev pub bounded_by : Items → Option Limit → Option Limit
bounded_by [] o = None
bounded_by (i ∷ is) None = None
bounded_by (i ∷ is) (Some l) =
    if is_mark sign.OpenBrace i && grows l (seen_at 0 true false) 0 is then Some l else None

abbrev pub bounded_at : Items → Option ℕ → Option Limit
bounded_at is None = None
bounded_at is (Some n) = bounded_by (drop (n + 1) is) (limit_in (take n is))

-- behind the word while: a condition and a block of that kind
abbrev pub bounded : Items → Option Limit
bounded [] = None
bounded (o ∷ is) = if is_mark sign.OpenParen o then bounded_at is (close_at 0 0 is) else None

-- ---- all tokens

-- an open block: of what kind, and how many braces are put before the one that closes it. That of a loop; a branch of an if
-- that stands in one; such a branch that continue has left
pub data Open : Type 0 where
  Plain Turn : (braces : ℕ) → Open
  Branch Left : Open

pub record State : Type 0 where
  pub blocks : List Open
  -- what the next brace opens
  pub next : Open
  -- a statement begins
  pub starts : Bool

abbrev pub begin : State
begin = record { blocks = []; next = Plain 0; starts = false }

abbrev pub is_turn : List Open → Bool
is_turn (Turn n ∷ os) = true
is_turn os = false

abbrev pub is_branch : List Open → Bool
is_branch (Branch ∷ os) = true
is_branch os = false

abbrev pub one_more : List Open → List Open
one_more (Turn n ∷ os) = Turn (n + 1) ∷ os
one_more os = os

-- behind the brace that closes the innermost block
abbrev pub closed : List Open → List Open
closed [] = []
closed (Left ∷ os) = one_more os
closed (o ∷ os) = os

-- that brace, and what stands with it
abbrev pub closing : List Open → Item Terminal → Items
closing (Plain n ∷ os) i = braces_at n i ++ i ∷ []
closing (Turn n ∷ os) i = braces_at n i ++ i ∷ []
closing (Left ∷ os) i = i ∷ at i (Fixed Else) ∷ at i (Mark sign.OpenBrace) ∷ []
closing os i = i ∷ []

abbrev pub next_behind : State → Item Terminal → Open
next_behind s i =
    if same (Fixed For) i.terminal then Turn 0
    else (if same (Fixed If) i.terminal then (if s.starts && is_turn s.blocks then Branch else Plain 0) else s.next)

abbrev pub behind : State → Item Terminal → State
behind s i =
    if is_mark sign.OpenBrace i then record { blocks = s.next ∷ s.blocks; next = Plain 0; starts = true }
    else (if is_mark sign.CloseBrace i then record { blocks = closed s.blocks; next = Plain 0; starts = true }
    else record { blocks = s.blocks; next = next_behind s i; starts = is_boundary i.terminal })

-- names that no source can spell
abbrev pub turn_names : List ℕ
turn_names = codes "while''''''''''''''''''''"

-- another one in each block in a block
abbrev pub turn_name : List Open → List ℕ
turn_name os = take (length os + 5) turn_names

-- for ( uint64_t NAME = 0 ; NAME < NUM ; NAME += 1 ) { if
abbrev pub head_at : Item Terminal → List ℕ → ℕ → Items
head_at i x n =
    at i (Fixed For) ∷ at i (Mark sign.OpenParen) ∷ at i (Fixed Uint64) ∷ at i (Name x) ∷ at i (Mark sign.Equal) ∷
    at i (Num (Some 0)) ∷ at i (Mark sign.Semicolon) ∷ at i (Name x) ∷ at i (Mark sign.Less) ∷ at i (Num (Some n)) ∷
    at i (Mark sign.Semicolon) ∷ at i (Name x) ∷ at i (Mark sign.PlusEqual) ∷ at i (Num (Some 1)) ∷
    at i (Mark sign.CloseParen) ∷ at i (Mark sign.OpenBrace) ∷ at i (Fixed If) ∷ []

-- ; } without an else
abbrev pub ends_branch : Items → Bool
ends_branch (s ∷ c ∷ is) = is_mark sign.Semicolon s && is_mark sign.CloseBrace c && not (is_else is)
ends_branch is = false

abbrev pub leaves : State → Item Terminal → Items → Bool
leaves s i is = s.starts && is_branch s.blocks && is_word (codes "continue") i && ends_branch is

abbrev pub left : List Open → List Open
left [] = []
left (o ∷ os) = Left ∷ os

abbrev pub Onward : Type 0
Onward = State → ℕ → Items

abbrev pub put_on : State → Item Terminal → Items → Onward → Items
put_on s i is go =
    if leaves s i is then go (record { blocks = left s.blocks; next = Plain 0; starts = true }) 1
    else (if is_mark sign.CloseBrace i then closing s.blocks i ++ go (behind s i) 0 else i ∷ go (behind s i) 0)

abbrev pub turned_on : State → Item Terminal → Items → Option Limit → Onward → Items
turned_on s i is None go = put_on s i is go
turned_on s i is (Some l) go =
    head_at i (turn_name s.blocks) l.most ++ go (record { blocks = s.blocks; next = Plain 1; starts = false }) 0

-- such a loop begins
abbrev pub loop_at : State → Item Terminal → Items → Option Limit
loop_at s i is = if s.starts && is_word (codes "while") i then bounded is else None

abbrev pub looped_on : State → ℕ → Item Terminal → Items → Onward → Items
looped_on s zero i is go = turned_on s i is (loop_at s i is) go
looped_on s (suc k) i is go = go s k

-- the tokens, of which k more are left out
abbrev pub looped_in : State → ℕ → Items → Items
looped_in s k [] = []
looped_in s k (i ∷ is) =
    if is_directive i.terminal then i ∷ looped_in s k is else looped_on s k i (bare is) (λ s k. looped_in s k is)

abbrev pub looped : Items → Items
looped is = looped_in begin 0 is
