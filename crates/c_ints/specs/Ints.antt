-- Scalars of the types int and bool: a declaration int x = V; or int x; in a block is one of uint64_t where each value that x
-- gets in the rest of its block is small. That is, of an int, a number below 2^31, a comparison or a logical value, or x and
-- such a value: beyond 2^31 - 1, where C says nothing of the sum of two ints, there is nothing to keep. Of a bool it is 0, 1, a
-- comparison or a logical value. Of int x = V, y = W; the rest is a declaration of its own. true is 1 and false is 0, where
-- neither is declared before. A return at the end of main is left out with its value, which has names, numbers, brackets,
-- comparisons and logical operators. All is looked for in tokens that are written out, where each change is an =, and the
-- values of temporaries are in their places.
use Rattle.std.specs.Prelude.{ℕ, zero, suc, ◌+◌, ◌-◌, ◌==◌, Bool, true, false, not, ◌&&◌, ◌||◌, nat_le, nat_lt, max, if◌then◌else◌, List, [], ◌∷◌, ◌++◌, Option, Some, None, codes}
use Rattle.c_tokens.specs.declared.kind.Sign.TheVariants as sign
use Rattle.c_grammar.specs.Lexeme.{Int, Uint64}
use Rattle.c_grammar.specs.Terminal.{Terminal, Fixed, Mark, Name, Num, same}
use Rattle.c_grammar.specs.Texts.{Item}
use Rattle.c_grammar.specs.Blocks.{Items, at, bare, is_directive}
use Rattle.c_grammar.specs.Constants.{is_mark, is_name, is_number}
use Rattle.c_grammar.specs.Counters.{is_set, is_type}

abbrev pub is_word : List ℕ → Terminal → Bool
is_word x t = same (Name x) t

-- ---- true and false

abbrev pub is_truth : Terminal → Bool
is_truth t = is_word (codes "true") t || is_word (codes "false") t

abbrev pub is_flag_type : Terminal → Bool
is_flag_type t = is_word (codes "bool") t || is_word (codes "_Bool") t

abbrev pub is_any_type : Terminal → Bool
is_any_type t = is_type t || is_flag_type t

-- true or false is declared by the token and those behind it
abbrev pub declares_truth : Item Terminal → Items → Bool
declares_truth i [] = false
declares_truth i (x ∷ is) = is_any_type i.terminal && is_truth x.terminal

abbrev pub number_at : Item Terminal → Item Terminal
number_at i =
    if is_word (codes "true") i.terminal then at i (Num (Some 1))
    else (if is_word (codes "false") i.terminal then at i (Num (Some 0)) else i)

-- the tokens with numbers for true and false, where neither is declared
abbrev pub numbered : Bool → Items → Items
numbered free [] = []
numbered free (i ∷ is) =
    (if free then number_at i else i) ∷ numbered (free && not (declares_truth i (bare is))) is

-- ---- values

-- an int, or a bool
pub data Kind : Type 0 where
  Count Flag : Kind

abbrev pub kind_of : Terminal → Option Kind
kind_of t = if same (Fixed Int) t then Some Count else (if is_flag_type t then Some Flag else None)

abbrev pub most : Kind → ℕ
most Count = 2147483647
most Flag = 1

-- of what binds more tightly to what binds less: arithmetic, comparisons, operators on bits, logical ones
abbrev pub is_arithmetic : Item Terminal → Bool
is_arithmetic i =
    is_mark sign.Plus i || is_mark sign.Minus i || is_mark sign.Star i || is_mark sign.Slash i || is_mark sign.Percent i ||
    is_mark sign.ShiftLeft i || is_mark sign.ShiftRight i

abbrev pub is_comparison : Item Terminal → Bool
is_comparison i =
    is_mark sign.EqualEqual i || is_mark sign.NotEqual i || is_mark sign.Less i || is_mark sign.LessEqual i ||
    is_mark sign.Greater i || is_mark sign.GreaterEqual i

abbrev pub is_of_bits : Item Terminal → Bool
is_of_bits i = is_mark sign.Ampersand i || is_mark sign.Caret i || is_mark sign.Bar i

abbrev pub is_logical : Item Terminal → Bool
is_logical i = is_mark sign.AndAnd i || is_mark sign.OrOr i

abbrev pub rank_of : Item Terminal → Option ℕ
rank_of i =
    if is_arithmetic i then Some 0
    else (if is_comparison i then Some 1
    else (if is_of_bits i then Some 2
    else (if is_logical i then Some 3 else None)))

abbrev pub opens : Item Terminal → Bool
opens i = is_mark sign.OpenParen i || is_mark sign.OpenBracket i

abbrev pub closes : Item Terminal → Bool
closes i = is_mark sign.CloseParen i || is_mark sign.CloseBracket i

-- a value so far: how many brackets are open; in how many its outermost operator or operand stands, and that operator's rank;
-- whether it is but numbers in brackets that are small enough
pub record Value : Type 0 where
  pub depth : ℕ
  pub base : ℕ
  pub rank : ℕ
  pub alone : Bool

abbrev pub max_value : ℕ
max_value = 256

-- no operator is in so many brackets
abbrev pub nothing_read : Value
nothing_read = record { depth = 0; base = max_value; rank = 0; alone = true }

abbrev pub with_rank : ℕ → Value → Value
with_rank r v =
    if nat_lt v.depth v.base then record { depth = v.depth; base = v.depth; rank = r; alone = false }
    else (if v.depth == v.base then record { depth = v.depth; base = v.base; rank = max v.rank r; alone = false }
    else record { depth = v.depth; base = v.base; rank = v.rank; alone = false })

abbrev pub opened : Item Terminal → Value → Value
opened i v = record { depth = v.depth + 1; base = v.base; rank = v.rank; alone = v.alone && is_mark sign.OpenParen i }

abbrev pub closed : Value → Option Value
closed v =
    if v.depth == 0 then None
    else Some (record { depth = v.depth - 1; base = v.base; rank = v.rank; alone = v.alone })

-- an operand, or an operator that stands before one, takes part in what is made of it like arithmetic
abbrev pub with_operand : Bool → Value → Value
with_operand small v =
    if nat_lt v.depth v.base then record { depth = v.depth; base = v.depth; rank = 0; alone = v.alone && small }
    else record { depth = v.depth; base = v.base; rank = v.rank; alone = v.alone && small }

-- the sign ! gives 0 or 1, as what it stands before does that is small
abbrev pub negated : Value → Value
negated v = record { depth = v.depth; base = v.base; rank = v.rank; alone = false }

abbrev pub is_small_number : Kind → Terminal → Bool
is_small_number k (Num (Some n)) = nat_le n (most k)
is_small_number k t = false

abbrev pub operand_on : Kind → Value → Item Terminal → Option Value
operand_on k v i =
    if is_mark sign.Bang i then Some (negated v)
    else (if is_name i.terminal || (is_number i.terminal || is_mark sign.Tilde i)
    then Some (with_operand (is_small_number k i.terminal) v) else None)

abbrev pub by_rank : Kind → Value → Item Terminal → Option ℕ → Option Value
by_rank k v i (Some r) = Some (with_rank r v)
by_rank k v i None = operand_on k v i

-- with the next token, if the value may go on so
abbrev pub value_by : Kind → Value → Item Terminal → Option Value
value_by k v i = if opens i then Some (opened i v) else (if closes i then closed v else by_rank k v i (rank_of i))

abbrev pub ends : Item Terminal → Bool
ends i = is_mark sign.Semicolon i || is_mark sign.Comma i

-- no bracket is open, and the outermost operator gives 0 or 1, or the value is a number that is small
abbrev pub is_small : Value → Bool
is_small v = v.depth == 0 && (v.alone || (v.rank == 1 || v.rank == 3))

-- the value that goes on with these tokens, of which so many are looked at, is small
abbrev pub small_from : ℕ → Kind → Value → Items → Bool
small_from zero k v is = false
small_from (suc n) k v [] = false
small_from (suc n) k v (i ∷ is) =
    if ends i then is_small v
    else elim (value_by k v i) as (λ o. Bool) [ None ↦ false | Some w ↦ small_from n k w is ]

-- it is that, or of an int x also x and such a value
abbrev pub adds_to : Kind → List ℕ → Item Terminal → Items → Bool
adds_to Count x i (j ∷ is) = is_word x i.terminal && is_mark sign.Plus j
adds_to k x i is = false

abbrev pub behind_one : Items → Items
behind_one [] = []
behind_one (i ∷ is) = is

abbrev pub small_behind : Kind → List ℕ → Items → Bool
small_behind k x [] = false
small_behind k x (i ∷ is) =
    if adds_to k x i is then small_from max_value k nothing_read (behind_one is)
    else small_from max_value k nothing_read (i ∷ is)

-- ---- the rest of a block

-- what follows a name does not change it, or to a small value
abbrev pub stays_small : Kind → List ℕ → Items → Bool
stays_small k x is = if is_set is then small_behind k x (behind_one is) else true

abbrev pub inner_depth : Item Terminal → ℕ → ℕ
inner_depth i d = if is_mark sign.OpenBrace i then d + 1 else d

abbrev pub max_scope : ℕ
max_scope = 8192

-- in the rest of a block, of which so many tokens are looked at, the name gets small values alone, and no type stands before
-- it; whether a type stands before the first token, and how many blocks are open within it
abbrev pub keeps : ℕ → Kind → List ℕ → Bool → ℕ → Items → Bool
keeps zero k x typed d is = false
keeps (suc n) k x typed d [] = true
keeps (suc n) k x typed d (i ∷ is) =
    if is_mark sign.CloseBrace i then d == 0 || keeps n k x false (d - 1) is
    else (if is_word x i.terminal then not typed && (stays_small k x is && keeps n k x false d is)
    else keeps n k x (is_any_type i.terminal) (inner_depth i d) is)

-- the name, with what follows it, is declared with small values
abbrev pub is_declared : Kind → Terminal → Items → Bool
is_declared k (Name x) [] = false
is_declared k (Name x) (e ∷ is) =
    if is_mark sign.Equal e then small_from max_value k nothing_read is && keeps max_scope k x false 0 is
    else ends e && keeps max_scope k x false 0 is
is_declared k t is = false

abbrev pub first_declared : Kind → Items → Bool
first_declared k [] = false
first_declared k (x ∷ is) = is_declared k x.terminal is

-- ---- the end of main

abbrev pub is_returned : Item Terminal → Bool
is_returned i =
    is_name i.terminal || (is_number i.terminal || (is_mark sign.OpenParen i || (is_mark sign.CloseParen i ||
    (is_comparison i || (is_logical i || is_mark sign.Bang i)))))

-- a number by itself is not left out: 0 was already
abbrev pub begins_number : Items → Bool
begins_number [] = false
begins_number (i ∷ is) = is_number i.terminal

-- the brace that follows is the last token
abbrev pub is_last_brace : Items → Bool
is_last_brace (b ∷ []) = is_mark sign.CloseBrace b
is_last_brace is = false

-- what is returned, of which so many tokens are looked at, is the last statement; whether a name stands before the first token
abbrev pub is_last_return : ℕ → Bool → Items → Bool
is_last_return zero named is = false
is_last_return (suc n) named [] = false
is_last_return (suc n) named (i ∷ is) =
    if is_mark sign.Semicolon i then is_last_brace is
    else is_returned i && (not (named && is_mark sign.OpenParen i) && is_last_return n (is_name i.terminal) is)

-- ---- all tokens

-- a statement begins; another token of one; behind the type of a declaration, or in a value of one; before a further name of
-- one; behind the last statement
pub data Mode : Type 0 where
  Begins Inside Gone : Mode
  Named Valued Further : Kind → Mode

-- in so many blocks
pub record State : Type 0 where
  pub depth : ℕ
  pub mode : Mode

abbrev pub begin : State
begin = record { depth = 0; mode = Inside }

-- a declaration begins
abbrev pub declared_at : State → Item Terminal → Items → Option Kind
declared_at s i is =
    if s.depth == 0 then None
    else elim (kind_of i.terminal) as (λ o. Option Kind)
    [ None ↦ None | Some k ↦ if first_declared k is then Some k else None ]

abbrev pub returns_at : State → Item Terminal → Items → Bool
returns_at s i is =
    s.depth == 1 && (is_word (codes "return") i.terminal && (not (begins_number is) && is_last_return max_value false is))

abbrev pub type_at : Item Terminal → Item Terminal
type_at i = at i (Fixed Uint64)

-- the type of what is none of these scalars
abbrev pub kept_type : Kind → Item Terminal → Item Terminal
kept_type Count i = at i (Fixed Int)
kept_type Flag i = at i (Name (codes "bool"))

-- a name, with a value where none follows
abbrev pub with_value : Item Terminal → Items → Items
with_value i is = if is_set is then i ∷ [] else i ∷ at i (Mark sign.Equal) ∷ at i (Num (Some 0)) ∷ []

-- what is written of a token
abbrev pub put_first : State → Item Terminal → Items → Items
put_first s i is =
    if returns_at s i is then []
    else elim (declared_at s i is) as (λ o. Items) [ None ↦ i ∷ [] | Some k ↦ type_at i ∷ [] ]

abbrev pub put_further : Kind → Item Terminal → Items → Items
put_further k i is = if is_declared k i.terminal is then type_at i ∷ with_value i is else kept_type k i ∷ i ∷ []

abbrev pub put_valued : Item Terminal → Items
put_valued i = if is_mark sign.Comma i then at i (Mark sign.Semicolon) ∷ [] else i ∷ []

abbrev pub put_by : Mode → State → Item Terminal → Items → Items
put_by Begins s i is = put_first s i is
put_by Inside s i is = i ∷ []
put_by Gone s i is = if is_mark sign.CloseBrace i then i ∷ [] else []
put_by (Named k) s i is = with_value i is
put_by (Valued k) s i is = put_valued i
put_by (Further k) s i is = put_further k i is

-- behind a token, in so many blocks
abbrev pub next_depth : Item Terminal → ℕ → ℕ
next_depth i d =
    if is_mark sign.OpenBrace i then d + 1 else (if is_mark sign.CloseBrace i then d - 1 else d)

abbrev pub begins_behind : Item Terminal → Bool
begins_behind i = is_mark sign.OpenBrace i || (is_mark sign.CloseBrace i || is_mark sign.Semicolon i)

abbrev pub other_mode : Item Terminal → Mode
other_mode i = if begins_behind i then Begins else Inside

abbrev pub mode_behind_first : State → Item Terminal → Items → Mode
mode_behind_first s i is =
    if returns_at s i is then Gone
    else elim (declared_at s i is) as (λ o. Mode) [ None ↦ other_mode i | Some k ↦ Named k ]

abbrev pub valued_mode : Kind → Item Terminal → Mode
valued_mode k i = if is_mark sign.Comma i then Further k else (if is_mark sign.Semicolon i then Begins else Valued k)

abbrev pub further_mode : Kind → Item Terminal → Items → Mode
further_mode k i is = if is_declared k i.terminal is then Valued k else other_mode i

abbrev pub mode_behind : Mode → State → Item Terminal → Items → Mode
mode_behind Begins s i is = mode_behind_first s i is
mode_behind Inside s i is = other_mode i
mode_behind Gone s i is = Gone
mode_behind (Named k) s i is = Valued k
mode_behind (Valued k) s i is = valued_mode k i
mode_behind (Further k) s i is = further_mode k i is

abbrev pub behind : State → Item Terminal → Items → State
behind s i is = record { depth = next_depth i s.depth; mode = mode_behind s.mode s i is }

abbrev pub widened_from : State → Items → Items
widened_from s [] = []
widened_from s (i ∷ is) =
    if is_directive i.terminal then i ∷ widened_from s is
    else put_by s.mode s i (bare is) ++ widened_from (behind s i (bare is)) is

-- all tokens, with uint64_t for the types of these scalars
abbrev pub widened : Items → Items
widened is = widened_from begin (numbered true is)
