-- Temporaries of the type int: a declaration int x = E; in a block, whose value has numbers and names of loops around it, is
-- left out where nothing in the rest of its block changes x or declares it anew. There each x stands for ( E ), at its own
-- place. Of int x = E, y = F; the rest is int y = F; then. This is looked for in tokens that are written out: a loop that is
-- read is for ( uint64_t NAME = .. by then, each change is an =, and no int is read but the one before main. In C the value
-- is an int: it is the same below 2^31, and what is computed of it where no part of that is below 0.
use Rattle.std.specs.Prelude.{ℕ, zero, suc, ◌+◌, ◌-◌, ◌==◌, Bool, true, false, not, ◌&&◌, ◌||◌, nat_le, nat_lt, if◌then◌else◌, List, [], ◌∷◌, ◌++◌, length, map, Option, Some, None, option_and_then}
use Rattle.std.specs.Str.{bytes_eq}
use Rattle.c_tokens.specs.declared.kind.Sign.TheVariants as sign
use Rattle.c_grammar.specs.Lexeme.{For, Int}
use Rattle.c_grammar.specs.Terminal.{Terminal, Fixed, Mark, Name, Num, same}
use Rattle.c_grammar.specs.Texts.{Item}
use Rattle.c_grammar.specs.Blocks.{Items, at, bare, is_directive}
use Rattle.c_grammar.specs.Constants.{is_mark}
use Rattle.c_grammar.specs.Counters.{is_set, is_type}
use Rattle.c_grammar.specs.Triangles.{name_in}

abbrev pub Terminals : Type 0
Terminals = List Terminal

-- ---- names that are known

-- the name of a loop, which stands for itself, or of a temporary, with what it stands for; in so many blocks
pub record Known : Type 0 where
  pub name : List ℕ
  pub value : Terminals
  pub depth : ℕ

-- what a name stands for; the innermost one comes first
abbrev pub value_of : List Known → List ℕ → Option Terminals
value_of [] x = None
value_of (k ∷ ks) x = if bytes_eq k.name x then Some k.value else value_of ks x

-- those that are known in so many blocks
abbrev pub still_known : ℕ → List Known → List Known
still_known d [] = []
still_known d (k ∷ ks) = if nat_lt d k.depth then still_known d ks else k ∷ ks

-- ---- values

-- what has to come next: an operand; one that is a number, behind / and % or behind << and >>; an operator, or the end
pub data Wanted : Type 0 where
  AnOperand ADivisor AShift AnOperator : Wanted

-- an operator with any operand behind it
abbrev pub is_operator : Item Terminal → Bool
is_operator i =
    is_mark sign.Plus i || is_mark sign.Minus i || is_mark sign.Star i || is_mark sign.Ampersand i || is_mark sign.Bar i ||
    is_mark sign.Caret i

-- behind an operator
abbrev pub wanted_behind : Item Terminal → Option Wanted
wanted_behind i =
    if is_mark sign.Slash i || is_mark sign.Percent i then Some ADivisor
    else (if is_mark sign.ShiftLeft i || is_mark sign.ShiftRight i then Some AShift
    else (if is_operator i then Some AnOperand else None))

-- a value so far: what has to come next, how many brackets are open, and its tokens
pub record Value : Type 0 where
  pub wanted : Wanted
  pub brackets : ℕ
  pub tokens : Terminals

abbrev pub nothing_read : Value
nothing_read = record { wanted = AnOperand; brackets = 0; tokens = [] }

-- with further tokens
abbrev pub goes_on : Wanted → ℕ → Terminals → Value → Value
goes_on w d ts v = record { wanted = w; brackets = d; tokens = v.tokens ++ ts }

abbrev pub with_number : ℕ → Value → Value
with_number n v = goes_on AnOperator v.brackets (Num (Some n) ∷ []) v

abbrev pub with_known : Value → Option Terminals → Option Value
with_known v None = None
with_known v (Some ts) = Some (goes_on AnOperator v.brackets ts v)

abbrev pub opened : Value → Value
opened v = goes_on AnOperand (v.brackets + 1) (Mark sign.OpenParen ∷ []) v

abbrev pub operand_on : List Known → Value → Terminal → Option Value
operand_on ks v (Name x) = with_known v (value_of ks x)
operand_on ks v (Num (Some n)) = Some (with_number n v)
operand_on ks v t = if same (Mark sign.OpenParen) t then Some (opened v) else None

abbrev pub divisor_on : Value → Terminal → Option Value
divisor_on v (Num (Some n)) = if n == 0 then None else Some (with_number n v)
divisor_on v t = None

abbrev pub shift_on : Value → Terminal → Option Value
shift_on v (Num (Some n)) = if nat_lt n 64 then Some (with_number n v) else None
shift_on v t = None

abbrev pub closed : Value → Option Value
closed v =
    if v.brackets == 0 then None else Some (goes_on AnOperator (v.brackets - 1) (Mark sign.CloseParen ∷ []) v)

abbrev pub by_wanted : Value → Terminal → Option Wanted → Option Value
by_wanted v t None = None
by_wanted v t (Some w) = Some (goes_on w v.brackets (t ∷ []) v)

abbrev pub operator_on : Value → Item Terminal → Option Value
operator_on v i = if is_mark sign.CloseParen i then closed v else by_wanted v i.terminal (wanted_behind i)

-- with the next token, if the value may go on so
abbrev pub value_by : Wanted → List Known → Value → Item Terminal → Option Value
value_by AnOperand ks v i = operand_on ks v i.terminal
value_by ADivisor ks v i = divisor_on v i.terminal
value_by AShift ks v i = shift_on v i.terminal
value_by AnOperator ks v i = operator_on v i

abbrev pub is_behind_operand : Wanted → Bool
is_behind_operand AnOperator = true
is_behind_operand w = false

-- the value ends before the token
abbrev pub is_whole : Value → Item Terminal → Bool
is_whole v i = is_behind_operand v.wanted && (v.brackets == 0 && (is_mark sign.Semicolon i || is_mark sign.Comma i))

-- a whole value, how many tokens it has with that behind it, which may be a comma, and what follows
pub record Whole : Type 0 where
  pub tokens : Terminals
  pub len : ℕ
  pub more : Bool
  pub rest : Items

-- of which n tokens have been read
abbrev pub value_from : List Known → ℕ → Value → Items → Option Whole
value_from ks n v [] = None
value_from ks n v (i ∷ is) =
    if is_whole v i then Some (record { tokens = v.tokens; len = n + 1; more = is_mark sign.Comma i; rest = is })
    else option_and_then (λ w. value_from ks (n + 1) w is) (value_by v.wanted ks v i)

-- ---- what follows

abbrev pub inner_depth : Item Terminal → ℕ → ℕ
inner_depth i d = if is_mark sign.OpenBrace i then d + 1 else d

-- in the rest of a block, of which so many tokens are looked at, no = stands behind the name and no type before it; whether
-- a type stands before the first token, and how many blocks are open within it
abbrev pub stays : ℕ → List ℕ → Bool → ℕ → Items → Bool
stays zero x typed d is = false
stays (suc k) x typed d [] = true
stays (suc k) x typed d (i ∷ is) =
    if is_mark sign.CloseBrace i then d == 0 || stays k x false (d - 1) is
    else (if same (Name x) i.terminal then not typed && (not (is_set is) && stays k x false d is)
    else stays k x (is_type i.terminal) (inner_depth i d) is)

-- ---- all tokens

abbrev pub max_value : ℕ
max_value = 32

abbrev pub max_scope : ℕ
max_scope = 8192

abbrev pub max_known : ℕ
max_known = 256

abbrev pub max_uses : ℕ
max_uses = 65536

-- in so many blocks; the names that are known, the last one first; whether a statement begins; whether a further name of a
-- declaration comes; how many temporaries may still be put in
pub record State : Type 0 where
  pub depth : ℕ
  pub knowns : List Known
  pub begins : Bool
  pub declares : Bool
  pub left : ℕ

abbrev pub begin : State
begin = record { depth = 0; knowns = []; begins = false; declares = false; left = max_uses }

abbrev pub in_brackets : Terminals → Terminals
in_brackets ts = Mark sign.OpenParen ∷ (ts ++ Mark sign.CloseParen ∷ [])

-- a temporary, how many tokens of its declaration stand behind its name, and whether a further name comes
pub record Temporary : Type 0 where
  pub known : Known
  pub len : ℕ
  pub more : Bool

abbrev pub temporary_of : ℕ → List ℕ → Option Whole → Option Temporary
temporary_of d x None = None
temporary_of d x (Some v) =
    if nat_le (length v.tokens) max_value && stays max_scope x false 0 v.rest
    then Some (record { known = record { name = x; value = in_brackets v.tokens; depth = d }; len = v.len + 1; more = v.more })
    else None

abbrev pub named_by : State → Terminal → Items → Option Temporary
named_by s (Name x) is = temporary_of s.depth x (value_from s.knowns 0 nothing_read is)
named_by s t is = None

-- a name, and what follows it
abbrev pub declared_in : State → Item Terminal → Items → Option Temporary
declared_in s x [] = None
declared_in s x (e ∷ is) =
    if is_mark sign.Equal e && nat_lt (length s.knowns) max_known then named_by s x.terminal is else None

-- a declaration may begin here
abbrev pub may_begin : State → Item Terminal → Bool
may_begin s i = s.begins && (not (s.depth == 0) && same (Fixed Int) i.terminal)

abbrev pub typed_in : State → Items → Option Temporary
typed_in s [] = None
typed_in s (x ∷ is) = declared_in s x is

abbrev pub declared_at : State → Item Terminal → Items → Option Temporary
declared_at s i is = if may_begin s i then typed_in s is else None

abbrev pub value_at : State → Terminal → Option Terminals
value_at s (Name x) = if s.left == 0 then None else value_of s.knowns x
value_at s t = None

-- more than a name is put in
abbrev pub is_put : Option Terminals → Bool
is_put (Some (t ∷ u ∷ ts)) = true
is_put o = false

abbrev pub written_at : Item Terminal → Option Terminals → Items
written_at i None = i ∷ []
written_at i (Some ts) = map (at i) ts

abbrev pub spent : Option Terminals → State → State
spent o s = if is_put o then record s { left = s.left - 1 } else s

abbrev pub with_loop : ℕ → Option (List ℕ) → List Known → List Known
with_loop d None ks = ks
with_loop d (Some x) ks = record { name = x; value = Name x ∷ []; depth = d } ∷ ks

-- behind a token, before others
abbrev pub behind : Item Terminal → Items → State → State
behind i is s =
    if is_mark sign.OpenBrace i then record s { depth = s.depth + 1; begins = true }
    else (if is_mark sign.CloseBrace i
    then record s { depth = s.depth - 1; knowns = still_known (s.depth - 1) s.knowns; begins = true }
    else (if is_mark sign.Semicolon i then record s { begins = true }
    else (if same (Fixed For) i.terminal then record s { knowns = with_loop (s.depth + 1) (name_in is) s.knowns; begins = false }
    else record s { begins = false })))

abbrev pub Onward : Type 0
Onward = State → ℕ → Items

abbrev pub put : State → Item Terminal → Items → Option Terminals → Onward → Items
put s i is o go = written_at i o ++ go (behind i is (spent o s)) 0

abbrev pub with_temporary : Temporary → State → State
with_temporary t s = record s { knowns = t.known ∷ s.knowns; declares = t.more }

-- the name of a temporary stands behind the token
abbrev pub put_on : State → Item Terminal → Items → Option Temporary → Onward → Items
put_on s i is None go = put s i is (value_at s i.terminal) go
put_on s i is (Some t) go = go (with_temporary t s) (t.len + 1)

abbrev pub typed : State → State
typed s = record s { begins = false; declares = false }

-- the token is a further name of a declaration, whose type stands before it where it is no temporary
abbrev pub further_on : State → Item Terminal → Items → Option Temporary → Onward → Items
further_on s i is None go = at i (Fixed Int) ∷ put (typed s) i is (value_at s i.terminal) go
further_on s i is (Some t) go = go (with_temporary t s) t.len

abbrev pub placed_by : Bool → State → Item Terminal → Items → Onward → Items
placed_by true s i is go = further_on s i is (declared_in s i is) go
placed_by false s i is go = put_on s i is (declared_at s i is) go

abbrev pub placed_on : State → ℕ → Item Terminal → Items → Onward → Items
placed_on s zero i is go = placed_by s.declares s i is go
placed_on s (suc k) i is go = go s k

-- the tokens, of which k more are left out
abbrev pub placed : State → ℕ → Items → Items
placed s k [] = []
placed s k (i ∷ is) =
    if is_directive i.terminal then i ∷ placed s k is else placed_on s k i (bare is) (λ s k. placed s k is)

-- all tokens, with the values of temporaries in their places
abbrev pub in_place : Items → Items
in_place is = placed begin 0 is
