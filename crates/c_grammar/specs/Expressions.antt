-- Expressions of numbers, and of names that stand for numbers.
use Rattle.std.specs.Prelude.{ℕ, ◌+◌, ◌-◌, ◌*◌, ◌/◌, ◌%◌, ◌^◌, Bool, false, ◌&&◌, ◌==◌, nat_lt, nat_le, if◌then◌else◌, List, [], ◌∷◌, length, Option, Some, None}
use Rattle.std.specs.Str.{bytes_eq}
use Rattle.c_tokens.specs.declared.kind.Sign.{Sign}
use Rattle.c_tokens.specs.declared.kind.Sign.TheVariants as sign
use Rattle.c_grammar.specs.Lexeme.{Lexeme, Reserved, Signed, Worded, Numbered, Strange, Ended, Placed}
use Rattle.c_grammar.specs.Terminal.{Terminal, Fixed, Mark, Name, Num, Unknown, End, same}
use Rattle.c_grammar.specs.Texts.{Item}

abbrev pub Items : Type 0
Items = List (Item Terminal)

-- the constants so far, with their numbers
abbrev pub Values : Type 0
Values = List (List ℕ × ℕ)

abbrev pub value_of : Values → List ℕ → Option ℕ
value_of [] x = None
value_of (v ∷ vs) x = if bytes_eq v.0 x then Some v.1 else value_of vs x

abbrev pub number_for : List ℕ → Option ℕ → Terminal
number_for x None = Name x
number_for x (Some n) = Num (Some n)

-- the token, with its number where it is a constant's name
abbrev pub put : Values → Terminal → Terminal
put vs (Name x) = number_for x (value_of vs x)
put vs t = t

-- ---- expressions of numbers

pub data Work : Type 0 where
  Sum Difference Product Quotient Rest Left Right : Work

abbrev pub tightness : Work → ℕ
tightness Left = 0
tightness Right = 0
tightness Sum = 1
tightness Difference = 1
tightness Product = 2
tightness Quotient = 2
tightness Rest = 2

abbrev pub work_at : Sign → Option Work
work_at sign.Plus = Some Sum
work_at sign.Minus = Some Difference
work_at sign.Star = Some Product
work_at sign.Slash = Some Quotient
work_at sign.Percent = Some Rest
work_at sign.ShiftLeft = Some Left
work_at sign.ShiftRight = Some Right
work_at _ = None

abbrev pub work_of : Terminal → Option Work
work_of (Mark s) = work_at s
work_of _ = None

-- the number, if it is below 2 ^ 64
abbrev pub fitting : ℕ → Option ℕ
fitting n = if nat_lt n (2 ^ 64) then Some n else None

-- the value, computed modulo nothing; none where there is none, or it is no number below 2 ^ 64
abbrev pub result : Work → ℕ → ℕ → Option ℕ
result Sum a b = fitting (a + b)
result Difference a b = if nat_lt a b then None else Some (a - b)
result Product a b = fitting (a * b)
result Quotient a b = if b == 0 then None else Some (a / b)
result Rest a b = if b == 0 then None else Some (a % b)
result Left a b = if nat_lt 63 b then None else fitting (a * 2 ^ b)
result Right a b = if nat_lt 63 b then None else Some (a / 2 ^ b)

-- what waits for an operand on its right: a number with an operator behind it, or an open bracket
pub data Waiting : Type 0 where
  Behind : (value : ℕ) (work : Work) (place : Item Terminal) → Waiting
  Bracket : Waiting

-- what has been read last: nothing that is a value, or a value
pub data Read : Type 0 where
  Nothing : Read
  Value : (n : ℕ) → Read

-- how many tokens the expression has, with its value or the operator that has none
pub data Worked : Type 0 where
  Number : (tokens value : ℕ) → Worked
  Fault : (tokens : ℕ) (place : Item Terminal) → Worked

-- the operators that bind as tight as that, or tighter, are worked out
pub data Reduced : Type 0 where
  To : (value : ℕ) (waiting : List Waiting) → Reduced
  Stuck : (place : Item Terminal) → Reduced

abbrev pub reduce_on : Item Terminal → Option ℕ → (ℕ → Reduced) → Reduced
reduce_on i None go = Stuck i
reduce_on i (Some n) go = go n

abbrev pub reduce : ℕ → List Waiting → ℕ → Reduced
reduce k [] n = To n []
reduce k (Bracket ∷ ws) n = To n (Bracket ∷ ws)
reduce k (Behind a w i ∷ ws) n =
    if nat_le k (tightness w) then reduce_on i (result w a n) (λ v. reduce k ws v) else To n (Behind a w i ∷ ws)

-- how the expression may go on behind a value: it is over where it is closed, which is asked for by single, and no bracket
-- is open, or where no operator follows
abbrev pub with_operator : ℕ → Item Terminal → Work → Reduced → (Read → List Waiting → Option Worked) → Option Worked
with_operator k i w (Stuck p) go = Some (Fault k p)
with_operator k i w (To n ws) go = go Nothing (Behind n w i ∷ ws)

abbrev pub with_close : ℕ → Reduced → (Read → List Waiting → Option Worked) → Option Worked
with_close k (Stuck p) go = Some (Fault k p)
with_close k (To n []) go = Some (Number k n)
with_close k (To n (Bracket ∷ ws)) go = go (Value n) ws
with_close k (To n (Behind a w i ∷ ws)) go = None

abbrev pub at_end : ℕ → Reduced → Option Worked
at_end k (Stuck p) = Some (Fault k p)
at_end k (To n []) = Some (Number k n)
at_end k (To n (w ∷ ws)) = None

abbrev pub behind_value : ℕ → ℕ → List Waiting → Item Terminal → Option Work → (Read → List Waiting → Option Worked) →
    Option Worked
behind_value k n ws i (Some w) go = with_operator k i w (reduce (tightness w) ws n) go
behind_value k n ws i None go =
    if same (Mark sign.CloseParen) i.terminal then with_close k (reduce 0 ws n) go else at_end k (reduce 0 ws n)

-- so many numbers and brackets may wait behind a bracket
abbrev pub most_waiting : ℕ
most_waiting = 256

abbrev pub at_operand : List Waiting → Terminal → (Read → List Waiting → Option Worked) → Option Worked
at_operand ws (Num (Some n)) go = go (Value n) ws
at_operand ws (Mark s) go =
    if same (Mark sign.OpenParen) (Mark s) && nat_lt (length ws) most_waiting then go Nothing (Bracket ∷ ws) else None
at_operand ws t go = None

abbrev pub is_over : Bool → List Waiting → Bool
is_over single [] = single
is_over single (w ∷ ws) = false

-- the expression at the front, of which k tokens are read: one number or bracket alone if single, else with the operators
-- behind it
unfoldable pub expression : Values → Bool → Read → List Waiting → ℕ → Items → Option Worked
expression vs single Nothing ws k [] = None
expression vs single (Value n) ws k [] = at_end k (reduce 0 ws n)
expression vs single Nothing ws k (i ∷ is) = at_operand ws (put vs i.terminal) (λ r ws. expression vs single r ws (k + 1) is)
expression vs single (Value n) ws k (i ∷ is) =
    if is_over single ws then Some (Number k n)
    else behind_value k n ws i (work_of i.terminal) (λ r ws. expression vs single r ws (k + 1) is)

-- ---- the tokens of a line as such tokens

abbrev pub as_terminal : Lexeme → Terminal
as_terminal (Reserved w) = Fixed w
as_terminal (Signed s) = Mark s
as_terminal (Worded x) = Name x
as_terminal (Numbered n) = Num n
as_terminal Strange = Unknown
as_terminal Ended = End

abbrev pub as_items : ℕ → List Placed → Items
as_items line [] = []
as_items line (p ∷ ps) = record { terminal = as_terminal p.lexeme; line = line; column = p.column; columns = [] } ∷ as_items line ps

-- with their columns
abbrev pub placed_of : List Lexeme → List ℕ → List Placed
placed_of [] cs = []
placed_of (t ∷ ts) [] = []
placed_of (t ∷ ts) (c ∷ cs) = record { lexeme = t; column = c } ∷ placed_of ts cs
