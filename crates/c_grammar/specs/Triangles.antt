-- Loops whose bounds name loops around, as the loops over a triangle do; OpenMP calls them non-rectangular. A bound is a sum of
-- numbers and of such names that stays from 0 to below 2^64, whatever numbers these have. The loop is written with numbers for
-- bounds, by which it goes through all that it may go through, and in its block an if asks whether a turn is one of its own.
-- Names that are visible at once differ, so a name of a loop around is that loop's.
use Rattle.std.specs.Prelude.{ℕ, zero, suc, ◌+◌, ◌-◌, ◌%◌, ◌^◌, ◌==◌, nat_le, nat_lt, Bool, true, false, not, ◌&&◌, ◌||◌, if◌then◌else◌, List, [], ◌∷◌, ◌++◌, length, take, drop, Option, Some, None}
use Rattle.std.specs.Str.{bytes_eq}
use Rattle.c_tokens.specs.declared.kind.Sign.{Sign}
use Rattle.c_tokens.specs.declared.kind.Sign.TheVariants as sign
use Rattle.c_grammar.specs.Lexeme.{Uint64, For, If}
use Rattle.c_grammar.specs.Terminal.{Terminal, Fixed, Mark, Name, Num, same}
use Rattle.c_grammar.specs.Texts.{Item}
use Rattle.c_grammar.specs.Blocks.{Items, at, bare, is_directive}
use Rattle.c_grammar.specs.Constants.{is_mark}
use Rattle.c_grammar.specs.Grids.{Range, range}
use Rattle.c_grammar.specs.Loops.{is_word}

-- ---- the open blocks

-- an open block: of one of a loop that is understood, the numbers that its name may have, and whether an if stands in it
pub data Open : Type 0 where
  Plain : Open
  Named : (name : List ℕ) (range : Range) (guarded : Bool) → Open

abbrev pub range_in : List Open → List ℕ → Option Range
range_in [] x = None
range_in (Plain ∷ os) x = range_in os x
range_in (Named y r g ∷ os) x = if bytes_eq y x then Some r else range_in os x

-- ---- the bounds

pub record Bound : Type 0 where
  pub range : Range
  -- a name stands in it
  pub varies : Bool

abbrev pub bound : ℕ → ℕ → Bool → Bound
bound a b t = record { range = range a b; varies = t }

abbrev pub named : Option Range → Option Bound
named None = None
named (Some r) = Some (record { range = r; varies = true })

abbrev pub operand : List Open → Terminal → Option Bound
operand os (Num (Some n)) = Some (bound n n false)
operand os (Name x) = named (range_in os x)
operand os t = None

-- where it is surely below 2^64
abbrev pub sum : Bound → Bound → Option Bound
sum b c =
    if nat_lt (b.range.last + c.range.last) (2 ^ 64)
    then Some (bound (b.range.first + c.range.first) (b.range.last + c.range.last) (b.varies || c.varies)) else None

-- where it is surely not below 0
abbrev pub difference : Bound → Bound → Option Bound
difference b c =
    if nat_le c.range.last b.range.first
    then Some (bound (b.range.first - c.range.last) (b.range.last - c.range.first) (b.varies || c.varies)) else None

abbrev pub with_operand : Bool → Bound → Option Bound → Option Bound
with_operand minus b None = None
with_operand minus b (Some c) = if minus then difference b c else sum b c

abbrev pub on_bound : Option Bound → (Bound → Option Bound) → Option Bound
on_bound None go = None
on_bound (Some b) go = go b

abbrev pub adds : Item Terminal → Bool
adds o = is_mark sign.Plus o || is_mark sign.Minus o

-- with what is added to it, and taken away
abbrev pub bound_from : List Open → Bound → Items → Option Bound
bound_from os b [] = Some b
bound_from os b (o ∷ []) = None
bound_from os b (o ∷ i ∷ is) =
    if adds o
    then on_bound (with_operand (is_mark sign.Minus o) b (operand os i.terminal)) (λ c. bound_from os c is) else None

-- these tokens are a bound
abbrev pub bound_in : List Open → Items → Option Bound
bound_in os [] = None
bound_in os (i ∷ is) = on_bound (operand os i.terminal) (λ b. bound_from os b is)

-- ---- the head of a loop

-- behind the word for, in its parts
pub record Parts : Type 0 where
  -- ( uint64_t NAME =
  pub front : Items
  pub start : Items
  -- ; NAME
  pub middle : Items
  -- < or <= or !=
  pub compares : Item Terminal
  pub limit : Items
  -- ; and the step, and what follows
  pub back : Items

-- so many tokens stand before the first semicolon, with n before these
abbrev pub semicolon_at : ℕ → Items → Option ℕ
semicolon_at n [] = None
semicolon_at n (i ∷ is) = if is_mark sign.Semicolon i then Some n else semicolon_at (n + 1) is

abbrev pub cut_behind : Items → Items → Item Terminal → Items → Option ℕ → Option Parts
cut_behind is middle l js None = None
cut_behind is middle l js (Some n) = Some (record {
  front = take 4 is;
  start = drop 4 is;
  middle = middle;
  compares = l;
  limit = take n js;
  back = drop n js;
})

-- at the first semicolon, from which the second tokens go on
abbrev pub cut_at : Items → Items → Option Parts
cut_at is (s ∷ x ∷ l ∷ js) = cut_behind is (s ∷ x ∷ []) l js (semicolon_at 0 js)
cut_at is js = None

abbrev pub cut_by : Items → Option ℕ → Option Parts
cut_by is None = None
cut_by is (Some n) = if nat_le 4 n then cut_at (take n is) (drop n is) else None

abbrev pub cut : Items → Option Parts
cut is = cut_by is (semicolon_at 0 is)

abbrev pub name_of : Terminal → Option (List ℕ)
name_of (Name x) = Some x
name_of t = None

abbrev pub name_in : Items → Option (List ℕ)
name_in (o ∷ t ∷ x ∷ e ∷ is) =
    if is_mark sign.OpenParen o && same (Fixed Uint64) t.terminal && is_mark sign.Equal e then name_of x.terminal else None
name_in is = None

abbrev pub names : List ℕ → Items → Bool
names x (s ∷ i ∷ is) = is_word x i
names x is = false

-- by how much the name grows, and the tokens that say so, with the semicolon before and the bracket and brace behind
pub record Step : Type 0 where
  pub amount : ℕ
  pub tokens : Items

abbrev pub step : ℕ → Items → Step
step n is = record { amount = n; tokens = is }

abbrev pub begins_block : Item Terminal → Item Terminal → Bool
begins_block c b = is_mark sign.CloseParen c && is_mark sign.OpenBrace b

-- ; NAME ++ ) { or ; ++ NAME ) {
abbrev pub counts : List ℕ → Items → Bool
counts x (s ∷ a ∷ b ∷ c ∷ d ∷ is) =
    begins_block c d && ((is_word x a && is_mark sign.PlusPlus b) || (is_mark sign.PlusPlus a && is_word x b))
counts x is = false

abbrev pub step_by : Terminal → Items → Option Step
step_by (Num (Some n)) is = if nat_lt 0 n then Some (step n is) else None
step_by t is = None

-- ; NAME += NUM ) {
abbrev pub sum_step : List ℕ → Items → Option Step
sum_step x (s ∷ a ∷ b ∷ n ∷ c ∷ d ∷ is) =
    if is_word x a && is_mark sign.PlusEqual b && begins_block c d
    then step_by n.terminal (s ∷ a ∷ b ∷ n ∷ c ∷ d ∷ []) else None
sum_step x is = None

abbrev pub step_in : List ℕ → Items → Option Step
step_in x is = if counts x is then Some (step 1 (take 5 is)) else sum_step x is

-- ---- the loop

pub record Loop : Type 0 where
  pub parts : Parts
  pub name : List ℕ
  pub start : Bound
  pub limit : Bound
  pub step : Step
  -- the name stays below it
  pub end : ℕ

-- a name stands in one of the bounds
abbrev pub is_guarded : Loop → Bool
is_guarded l = l.start.varies || l.limit.varies

abbrev pub divides : ℕ → ℕ → Bool
divides n m = m % n == 0

-- the name, which begins no later, comes to its limit
abbrev pub meets : Bound → Bound → ℕ → Bool
meets a b n =
    nat_le a.range.last b.range.first &&
    ((n == 1) || (not (a.varies || b.varies) && divides n (b.range.last - a.range.first)))

abbrev pub end_of : Bound → Bound → ℕ → Item Terminal → Option ℕ
end_of a b n l =
    if is_mark sign.Less l || (is_mark sign.NotEqual l && meets a b n) then Some b.range.last
    else (if is_mark sign.LessEqual l && nat_lt b.range.last (2 ^ 64 - 1) then Some (b.range.last + 1) else None)

-- where a name says at which number it begins, the loop goes through all from there on
abbrev pub loop_to : Parts → List ℕ → Bound → Bound → Step → Option ℕ → Option Loop
loop_to p x a b s None = None
loop_to p x a b s (Some n) =
    if a.varies && not (s.amount == 1) then None
    else Some (record { parts = p; name = x; start = a; limit = b; step = s; end = n })

abbrev pub loop_with : Parts → List ℕ → Option Bound → Option Bound → Option Step → Option Loop
loop_with p x (Some a) (Some b) (Some s) = loop_to p x a b s (end_of a b s.amount p.compares)
loop_with p x a b s = None

abbrev pub loop_named : List Open → Parts → Option (List ℕ) → Option Loop
loop_named os p None = None
loop_named os p (Some x) =
    if names x p.middle then loop_with p x (bound_in os p.start) (bound_in os p.limit) (step_in x p.back) else None

abbrev pub loop_of : List Open → Option Parts → Option Loop
loop_of os None = None
loop_of os (Some p) = loop_named os p (name_in p.front)

-- at most so many tokens stand behind the word for, up to the brace
abbrev pub max_head : ℕ
max_head = 64

-- no more blocks may be open before a loop that is written out
abbrev pub max_open : ℕ
max_open = 16

abbrev pub loop_in : List Open → Items → Option Loop
loop_in os is = if nat_lt (length os) max_open then loop_of os (cut (take max_head is)) else None

-- ---- what stands for it

-- below which number the name stays, where the loop has numbers for bounds
abbrev pub hull_end : Loop → ℕ
hull_end l = if nat_lt l.start.range.first l.end then l.end else l.start.range.first

-- the numbers that the name may have
abbrev pub range_of : Loop → Range
range_of l = range l.start.range.first (if nat_lt l.start.range.first l.end then l.end - 1 else l.start.range.first)

-- at the place of the first of these tokens
abbrev pub number_for : ℕ → Items → Items
number_for n [] = []
number_for n (i ∷ is) = at i (Num (Some n)) ∷ []

-- NAME, the sign and the bound
abbrev pub asks : Item Terminal → List ℕ → Sign → Items → Items
asks i x s is = at i (Name x) ∷ at i (Mark s) ∷ is

abbrev pub limit_sign : Item Terminal → Sign
limit_sign l = if is_mark sign.LessEqual l then sign.LessEqual else sign.Less

abbrev pub lower : Loop → Items
lower l = if l.start.varies then asks l.parts.compares l.name sign.GreaterEqual l.parts.start else []

abbrev pub upper : Loop → Items
upper l = if l.limit.varies then asks l.parts.compares l.name (limit_sign l.parts.compares) l.parts.limit else []

abbrev pub between : Loop → Items
between l = if l.start.varies && l.limit.varies then at l.parts.compares (Mark sign.AndAnd) ∷ [] else []

-- if ( .. ) {
abbrev pub guard : Loop → Items
guard l =
    let i : Item Terminal = l.parts.compares in
    at i (Fixed If) ∷ at i (Mark sign.OpenParen) ∷
    (lower l ++ (between l ++ (upper l ++ at i (Mark sign.CloseParen) ∷ at i (Mark sign.OpenBrace) ∷ [])))

abbrev pub guard_for : Loop → Items
guard_for l = if is_guarded l then guard l else []

-- the head with numbers for bounds
abbrev pub head : Loop → Items
head l =
    let p : Parts = l.parts in
    p.front ++ (number_for l.start.range.first p.start ++ (p.middle ++ (at p.compares (Mark sign.Less) ∷
    (number_for (hull_end l) p.limit ++ l.step.tokens))))

-- of how many tokens
abbrev pub len : Loop → ℕ
len l =
    length l.parts.front + length l.parts.start + length l.parts.middle + 1 + length l.parts.limit + length l.step.tokens

-- a loop is as it was where its bounds are numbers, and < or <= compares
abbrev pub is_written : Loop → Bool
is_written l = is_guarded l || is_mark sign.NotEqual l.parts.compares

-- ---- all tokens

pub record State : Type 0 where
  pub blocks : List Open
  -- what the next brace opens
  pub next : Open

abbrev pub begin : State
begin = record { blocks = []; next = Plain }

abbrev pub block_of : Loop → Open
block_of l = Named l.name (range_of l) (is_guarded l)

abbrev pub behind : State → Item Terminal → State
behind s i =
    if is_mark sign.OpenBrace i then record { blocks = s.next ∷ s.blocks; next = Plain }
    else (if is_mark sign.CloseBrace i then record { blocks = drop 1 s.blocks; next = Plain } else s)

-- the brace that closes the innermost block, with that of its if
abbrev pub closing : List Open → Item Terminal → Items
closing (Named x r true ∷ os) i = at i (Mark sign.CloseBrace) ∷ i ∷ []
closing os i = i ∷ []

abbrev pub Onward : Type 0
Onward = State → ℕ → Items

abbrev pub put_on : State → Item Terminal → Onward → Items
put_on s i go = (if is_mark sign.CloseBrace i then closing s.blocks i else i ∷ []) ++ go (behind s i) 0

abbrev pub loop_on : State → Item Terminal → Loop → Onward → Items
loop_on s i l go =
    if is_written l
    then i ∷ ((head l ++ guard_for l) ++ go (record { blocks = block_of l ∷ s.blocks; next = Plain }) (len l))
    else i ∷ go (record { blocks = s.blocks; next = block_of l }) 0

abbrev pub turned_on : State → Item Terminal → Option Loop → Onward → Items
turned_on s i None go = put_on s i go
turned_on s i (Some l) go = loop_on s i l go

-- such a loop begins
abbrev pub loop_at : State → Item Terminal → Items → Option Loop
loop_at s i is = if same (Fixed For) i.terminal then loop_in s.blocks is else None

abbrev pub rectangular_on : State → ℕ → Item Terminal → Items → Onward → Items
rectangular_on s zero i is go = turned_on s i (loop_at s i is) go
rectangular_on s (suc k) i is go = go s k

-- the tokens, of which k more are left out
abbrev pub rectangular_in : State → ℕ → Items → Items
rectangular_in s k [] = []
rectangular_in s k (i ∷ is) =
    if is_directive i.terminal then i ∷ rectangular_in s k is
    else rectangular_on s k i (bare is) (λ s k. rectangular_in s k is)

-- all tokens, with numbers for the bounds of these loops
abbrev pub rectangular : Items → Items
rectangular is = rectangular_in begin 0 is
