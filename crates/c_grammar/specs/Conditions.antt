-- Clauses if(..) with a constant condition. One that holds, or that is for a part of a construct which changes nothing here,
-- is left out. Where the one for the target is 0, the host runs the region, and nothing is mapped or copied: the line is left
-- out if that is all that it says.
use Rattle.std.specs.Prelude.{ℕ, zero, suc, ◌+◌, ◌-◌, ◌==◌, nat_lt, nat_le, Bool, true, false, not, ◌&&◌, ◌||◌, if◌then◌else◌, List, [], ◌∷◌, ◌++◌, length, map, take, drop, Option, Some, None, codes}
use Rattle.c_tokens.specs.declared.kind.Sign.{Sign}
use Rattle.c_tokens.specs.declared.kind.Sign.TheVariants as sign
use Rattle.c_grammar.specs.Lexeme as lexeme
use Rattle.c_grammar.specs.Lexeme.{Lexeme, Reserved, Signed, Worded, Numbered, Strange, Ended, If, Placed}
use Rattle.c_grammar.specs.Terminal.{Terminal, Name, Line}
use Rattle.c_grammar.specs.Texts.{Item}
use Rattle.c_grammar.specs.Blocks.{Items, bare}
use Rattle.c_grammar.specs.Changes.{is_mark}
use Rattle.c_grammar.specs.Choices.{is_setting}
use Rattle.c_grammar.specs.Constants.{Names, is_among, with_tokens}
use Rattle.c_grammar.specs.Expressions as expressions
use Rattle.c_grammar.specs.Expressions.{Read, Nothing, Value, Work, placed_of, work_at}
use Rattle.c_grammar.specs.LineForms.{is_sign}
use Rattle.c_grammar.specs.Lines.{is_omp}
use Rattle.c_grammar.specs.Nesting.{has, name_len}
use Rattle.c_grammar.specs.Presence.{closes_list, is_mapped, is_word, opens_list, uses_on}
use Rattle.c_grammar.specs.Privates.{declared}
use Rattle.c_grammar.specs.Updates.{begins_index}

-- ---- conditions of numbers

pub data Operator : Type 0 where
  Or And Same Other Less AtMost Greater AtLeast : Operator
  By : (work : Work) → Operator

abbrev pub by_work : Option Work → Option Operator
by_work None = None
by_work (Some w) = Some (By w)

abbrev pub operator_at : Sign → Option Operator
operator_at sign.OrOr = Some Or
operator_at sign.AndAnd = Some And
operator_at sign.EqualEqual = Some Same
operator_at sign.NotEqual = Some Other
operator_at sign.Less = Some Less
operator_at sign.LessEqual = Some AtMost
operator_at sign.Greater = Some Greater
operator_at sign.GreaterEqual = Some AtLeast
operator_at s = by_work (work_at s)

abbrev pub tightness : Operator → ℕ
tightness Or = 0
tightness And = 1
tightness Same = 2
tightness Other = 2
tightness Less = 3
tightness AtMost = 3
tightness Greater = 3
tightness AtLeast = 3
tightness (By w) = expressions.tightness w + 4

abbrev pub truth : Bool → ℕ
truth b = if b then 1 else 0

-- the value; none where there is none, or it is no number below 2 ^ 64
abbrev pub result : Operator → ℕ → ℕ → Option ℕ
result Or a b = Some (truth (not ((a == 0) && (b == 0))))
result And a b = Some (truth (not (a == 0) && not (b == 0)))
result Same a b = Some (truth (a == b))
result Other a b = Some (truth (not (a == b)))
result Less a b = Some (truth (nat_lt a b))
result AtMost a b = Some (truth (nat_le a b))
result Greater a b = Some (truth (nat_lt b a))
result AtLeast a b = Some (truth (nat_le b a))
result (By w) a b = expressions.result w a b

-- what waits for an operand on its right: a number with an operator behind it, an open bracket, or !
pub data Waiting : Type 0 where
  Behind : (value : ℕ) (operator : Operator) → Waiting
  Bracket Negated : Waiting

-- the operators that bind as tight as that, or tighter, are worked out
pub data Reduced : Type 0 where
  To : (value : ℕ) (waiting : List Waiting) → Reduced
  Stuck : Reduced

abbrev pub reduce_on : Option ℕ → (ℕ → Reduced) → Reduced
reduce_on None go = Stuck
reduce_on (Some n) go = go n

abbrev pub reduce : ℕ → List Waiting → ℕ → Reduced
reduce k [] n = To n []
reduce k (Bracket ∷ ws) n = To n (Bracket ∷ ws)
reduce k (Negated ∷ ws) n = reduce k ws (truth (n == 0))
reduce k (Behind a o ∷ ws) n =
    if nat_le k (tightness o) then reduce_on (result o a n) (λ v. reduce k ws v) else To n (Behind a o ∷ ws)

-- how it goes on behind a token
pub data Going : Type 0 where
  Goes : (read : Read) (waiting : List Waiting) → Going
  -- the bracket round the whole is closed
  Ends : (value : ℕ) → Going
  Fails : Going

abbrev pub operand : List Waiting → Lexeme → Going
operand ws (Numbered (Some n)) = Goes (Value n) ws
operand ws (Signed s) =
    if is_sign sign.OpenParen (Signed s) then Goes Nothing (Bracket ∷ ws)
    else (if is_sign sign.Bang (Signed s) then Goes Nothing (Negated ∷ ws) else Fails)
operand ws t = Fails

abbrev pub closed : Reduced → Going
closed Stuck = Fails
closed (To n []) = Ends n
closed (To n (Bracket ∷ ws)) = Goes (Value n) ws
closed (To n (w ∷ ws)) = Fails

abbrev pub operated : Operator → Reduced → Going
operated o Stuck = Fails
operated o (To n ws) = Goes Nothing (Behind n o ∷ ws)

abbrev pub at_operator : ℕ → List Waiting → Sign → Option Operator → Going
at_operator n ws s None = if is_sign sign.CloseParen (Signed s) then closed (reduce 0 ws n) else Fails
at_operator n ws s (Some o) = operated o (reduce (tightness o) ws n)

abbrev pub behind_value : ℕ → List Waiting → Lexeme → Going
behind_value n ws (Signed s) = at_operator n ws s (operator_at s)
behind_value n ws t = Fails

abbrev pub step : Read → List Waiting → Lexeme → Going
step Nothing ws t = operand ws t
step (Value n) ws t = behind_value n ws t

-- its value, and how many tokens there are up to the bracket that closes it
pub record Found : Type 0 where
  pub value : ℕ
  pub len : ℕ

abbrev pub found_on : ℕ → Going → (Read → List Waiting → Option Found) → Option Found
found_on k (Goes r ws) go = go r ws
found_on k (Ends n) go = Some (record { value = n; len = k })
found_on k Fails go = None

-- the condition goes on behind k of its tokens
abbrev pub condition : Read → List Waiting → ℕ → List Lexeme → Option Found
condition r ws k [] = None
condition r ws k (t ∷ ts) = found_on (k + 1) (step r ws t) (λ r ws. condition r ws (k + 1) ts)

-- ---- the clause

-- what it is for: the whole of a construct, the target, another part; or it is none that is read
pub data Part : Type 0 where
  Whole Target Unread : Part
  Inner : (word : Lexeme) → Part

-- a clause, with how many tokens stand behind its word
pub record Clause : Type 0 where
  pub part : Part
  pub holds : Bool
  pub len : ℕ

abbrev pub unread : Clause
unread = record { part = Unread; holds = true; len = 0 }

-- behind so many words stands a colon; or 0
abbrev pub modifier_len : ℕ → List Lexeme → ℕ
modifier_len n [] = 0
modifier_len n (Worded x ∷ ts) = modifier_len (n + 1) ts
modifier_len n (t ∷ ts) = if is_sign sign.Colon t then n else 0

-- the words of a directive: of its own name, and of the parts behind target
pub record Heading : Type 0 where
  pub own : List Lexeme
  pub parts : List Lexeme

-- these tokens stand there, and no others
abbrev pub are_same : List Lexeme → List Lexeme → Bool
are_same [] [] = true
are_same [] (u ∷ us) = false
are_same (t ∷ ts) [] = false
are_same (t ∷ ts) (u ∷ us) = lexeme.same t u && are_same ts us

-- a part that takes the clause
abbrev pub takes : List Lexeme → Lexeme → Bool
takes parts t =
    (is_word (codes "parallel") t && has (codes "parallel") parts) || (is_word (codes "teams") t && has (codes "teams") parts) ||
    (is_word (codes "simd") t && has (codes "simd") parts)

abbrev pub inner_part : List Lexeme → List Lexeme → Part
inner_part parts (t ∷ []) = if takes parts t then Inner t else Unread
inner_part parts ts = Unread

-- by the words of the modifier
abbrev pub part_for : Heading → List Lexeme → Part
part_for h [] = Whole
part_for h (t ∷ ts) = if are_same h.own (t ∷ ts) then Target else inner_part h.parts (t ∷ ts)

abbrev pub with_value : Part → ℕ → Option Found → Clause
with_value p k None = unread
with_value p k (Some f) = record { part = p; holds = not (f.value == 0); len = k + f.len }

-- how many tokens the modifier and its colon are
abbrev pub with_colon : ℕ → ℕ
with_colon zero = 0
with_colon (suc n) = suc n + 1

-- behind the word if and a bracket
abbrev pub clause_in : Heading → ℕ → List Lexeme → Clause
clause_in h k ts = with_value (part_for h (take k ts)) (with_colon k + 1) (condition Nothing [] 0 (drop (with_colon k) ts))

-- behind the word if
abbrev pub clause_at : Heading → List Lexeme → Clause
clause_at h [] = unread
clause_at h (o ∷ ts) = if is_sign sign.OpenParen o then clause_in h (modifier_len 0 ts) ts else unread

-- ---- the clauses of a line

abbrev pub is_if : Lexeme → Bool
is_if t = lexeme.same (Reserved If) t

abbrev pub depth_behind : Lexeme → ℕ → ℕ
depth_behind t d = if opens_list t then d + 1 else (if closes_list t then d - 1 else d)

abbrev pub clause_on : Clause → (ℕ → List Clause) → List Clause
clause_on c go = c ∷ go c.len

-- the clauses if behind the name, in so many brackets; k more tokens belong to the one before
abbrev pub clauses : Heading → ℕ → ℕ → List Lexeme → List Clause
clauses h d k [] = []
clauses h d (suc k) (t ∷ ts) = clauses h d k ts
clauses h d zero (t ∷ ts) =
    if (d == 0) && is_if t then clause_on (clause_at h ts) (λ k. clauses h 0 k ts) else clauses h (depth_behind t d) 0 ts

abbrev pub lexemes : List Placed → List Lexeme
lexemes ps = map (λ p. p.lexeme) ps

-- how many tokens more are left out with the first, if it begins such a clause
abbrev pub leaves : Heading → ℕ → List Placed → Option ℕ
leaves h d [] = None
leaves h d (p ∷ ps) = if (d == 0) && is_if p.lexeme then Some (clause_at h (lexemes ps)).len else None

abbrev pub leave_on : ℕ → Placed → Option ℕ → (ℕ → ℕ → List Placed) → List Placed
leave_on d p None go = p ∷ go (depth_behind p.lexeme d) 0
leave_on d p (Some k) go = go 0 k

-- the tokens without them, of which k more are left out; the end stays
abbrev pub kept : Heading → ℕ → ℕ → List Placed → List Placed
kept h d k [] = []
kept h d k (p ∷ []) = p ∷ []
kept h d (suc k) (p ∷ q ∷ ps) = kept h d k (q ∷ ps)
kept h d zero (p ∷ q ∷ ps) = leave_on d p (leaves h d (p ∷ q ∷ ps)) (λ d k. kept h d k (q ∷ ps))

-- two that may not stand on one line: for the same, or one for the whole
abbrev pub collide : Part → Part → Bool
collide Whole q = true
collide Target Whole = true
collide Target Target = true
collide Target q = false
collide (Inner t) Whole = true
collide (Inner t) (Inner u) = lexeme.same t u
collide (Inner t) q = false
collide Unread q = true

abbrev pub is_apart : Part → List Clause → Bool
is_apart p [] = true
is_apart p (c ∷ cs) = not (collide p c.part) && is_apart p cs

abbrev pub is_read : Part → Bool
is_read Unread = false
is_read p = true

-- all of them are read, and no two collide
abbrev pub are_read : List Clause → Bool
are_read [] = true
are_read (c ∷ cs) = is_read c.part && is_apart c.part cs && are_read cs

abbrev pub is_for : Part → Part → Bool
is_for p Whole = true
is_for Target Target = true
is_for (Inner t) (Inner u) = lexeme.same t u
is_for p q = false

-- a clause says that this part does nothing
abbrev pub is_off : Part → List Clause → Bool
is_off p [] = false
is_off p (c ∷ cs) = (is_for p c.part && not c.holds) || is_off p cs

-- ---- lines that are left out

abbrev pub is_orderly : Lexeme → List Clause → Bool
is_orderly t cs =
    (takes (t ∷ []) t && is_off (Inner t) cs) || is_word (codes "distribute") t || lexeme.same (Reserved lexeme.For) t

-- the host runs the turns of a construct with these parts one by one, in order
abbrev pub are_orderly : List Lexeme → List Clause → Bool
are_orderly [] cs = true
are_orderly (t ∷ ts) cs = is_orderly t cs && are_orderly ts cs

-- a clause that says nothing of a region on the host that is run at once, and runs its turns in order
abbrev pub is_idle : Lexeme → Bool
is_idle t =
    is_word (codes "map") t || is_word (codes "to") t || is_word (codes "from") t || is_word (codes "device") t ||
    is_word (codes "collapse") t || is_word (codes "num_teams") t || is_word (codes "thread_limit") t ||
    is_word (codes "num_threads") t || is_word (codes "schedule") t || is_word (codes "simdlen") t ||
    is_word (codes "safelen") t || lexeme.same Ended t

-- only such clauses stand there, in so many brackets
abbrev pub are_idle : ℕ → List Lexeme → Bool
are_idle d [] = true
are_idle d (t ∷ ts) =
    if (d == 0) && not (opens_list t || is_idle t) then false else are_idle (depth_behind t d) ts

abbrev pub is_counting : Item Terminal → Bool
is_counting i = is_mark sign.PlusPlus i || is_mark sign.MinusMinus i

-- behind the name of a scalar: it is assigned
abbrev pub is_set : Items → Bool
is_set [] = false
is_set (i ∷ is) = is_setting i.terminal || is_counting i

-- a name that is none of these, and stands in no map clause of the line
abbrev pub is_outer : Names → List Lexeme → Terminal → Bool
is_outer xs ts (Name x) = not (is_among xs x) && not (is_mapped x 0 false ts)
is_outer xs ts t = false

-- the statement that begins there assigns such a scalar; so many parts are open, and ++ or -- stands before it or not
abbrev pub sets_outer : Names → List Lexeme → Bool → ℕ → Items → Bool
sets_outer xs ts counts d [] = false
sets_outer xs ts counts d (i ∷ is) =
    if is_outer xs ts i.terminal && (is_set is || (counts && not (begins_index is))) then true
    else uses_on d i is (λ d. sets_outer xs ts (is_counting i) d is)

-- the region is the same on the host, as far as it is captured what it uses
abbrev pub is_same_region : List Lexeme → Items → Bool
is_same_region ts is = not (sets_outer (declared [] 0 is) ts false 0 is)

-- ---- the line

-- how many words name the directive, with those of other directives of a target
abbrev pub own_len : List Lexeme → ℕ
own_len [] = 0
own_len (t ∷ []) = 1
own_len (t ∷ u ∷ []) = 1
own_len (t ∷ u ∷ v ∷ ts) =
    if is_word (codes "data") u || is_word (codes "update") u then 2
    else (if is_word (codes "enter") u || is_word (codes "exit") u then 3 else 1)

abbrev pub parts_len : ℕ → List Lexeme → ℕ
parts_len n ts = if n == 1 then name_len (drop n ts) else 0

-- a directive that maps or copies alone has no region that could differ
abbrev pub is_region : List Lexeme → Bool
is_region (t ∷ []) = is_word (codes "target") t
is_region ts = false

-- with these clauses behind the words
abbrev pub may_go : Heading → List Clause → List Lexeme → List Lexeme → Items → Bool
may_go h cs rest ts is =
    are_orderly h.parts cs && are_idle 0 rest && (not (is_region h.own) || is_same_region ts is)

abbrev pub words_len : Heading → ℕ
words_len h = length h.own + length h.parts

-- with these clauses if, and these tokens without them
abbrev pub outcome_by : Heading → List Clause → List Placed → List Placed → List Lexeme → Items → Option (List Placed)
outcome_by h cs qs ps ts is =
    if not (are_read cs) then Some ps
    else (if not (is_off Target cs) then Some qs
    else (if may_go h cs (drop (words_len h) (lexemes qs)) ts is then None else Some ps))

abbrev pub heading_by : ℕ → List Lexeme → Heading
heading_by n us = record { own = take n us; parts = take (parts_len n us) (drop n us) }

abbrev pub heading : List Lexeme → Heading
heading us = heading_by (own_len us) us

abbrev pub outcome_for : Heading → List Placed → List Lexeme → Items → Option (List Placed)
outcome_for h ps ts is = outcome_by h (clauses h 0 0 (lexemes ps)) (kept h 0 0 ps) ps ts is

-- what becomes of the tokens behind the words pragma omp, if the line is not left out
abbrev pub outcome : List Placed → List Lexeme → Items → Option (List Placed)
outcome ps ts is = outcome_for (heading (lexemes ps)) ps ts is

abbrev pub first_word : List Placed → Bool
first_word [] = false
first_word (p ∷ ps) = is_word (codes "target") p.lexeme

abbrev pub with_words : Placed → Placed → Option (List Placed) → Option (List Placed)
with_words p o None = None
with_words p o (Some qs) = Some (p ∷ o ∷ qs)

abbrev pub line_outcome : List Placed → List Lexeme → Items → Option (List Placed)
line_outcome [] ts is = Some []
line_outcome (p ∷ []) ts is = Some (p ∷ [])
line_outcome (p ∷ o ∷ ps) ts is = if first_word ps then with_words p o (outcome ps ts is) else Some (p ∷ o ∷ ps)

-- ---- all tokens

abbrev pub put_outcome : Item Terminal → List Lexeme → Option (List Placed) → Items
put_outcome i ts None = []
put_outcome i ts (Some ps) = with_tokens i ts ps ∷ []

abbrev pub decided_line : Item Terminal → List Lexeme → List Placed → Items → Items
decided_line i ts ps is = if is_omp ts then put_outcome i ts (line_outcome ps ts is) else i ∷ []

abbrev pub decided_item : Item Terminal → Terminal → Items → Items
decided_item i (Line ts) is = decided_line i ts (placed_of ts i.columns) is
decided_item i t is = i ∷ []

-- all tokens, with these lines and clauses left out
abbrev pub decided : Items → Items
decided [] = []
decided (i ∷ is) = decided_item i i.terminal (bare is) ++ decided is
