-- Changes in full: x op= e, x++ and ++x are assignments, and the head of a loop has its limit by < and its step by +=. main
-- has the word void between its brackets, for int NAME, char **NAME too, and does not say that it returns 0.
use Rattle.std.specs.Prelude.{ℕ, zero, suc, ◌+◌, ◌-◌, ◌^◌, Bool, true, false, not, ◌&&◌, ◌||◌, nat_lt, nat_le, if◌then◌else◌, [], ◌∷◌, ◌++◌, Option, Some, None, codes}
use Rattle.c_tokens.specs.declared.kind.Sign.{Sign}
use Rattle.c_tokens.specs.declared.kind.Sign.TheVariants as sign
use Rattle.c_grammar.specs.Lexeme.{Int, Main, Void, For}
use Rattle.c_grammar.specs.Terminal.{Terminal, Fixed, Mark, Name, Num, Unworked, same}
use Rattle.c_grammar.specs.Texts.{Item}
use Rattle.c_grammar.specs.Blocks.{Items, at, is_directive, bare}

abbrev pub is_mark : Sign → Item Terminal → Bool
is_mark s i = same (Mark s) i.terminal

-- the operator of such a sign: with any operand on its right, with a number, by one
pub data Kind : Type 0 where
  With ByNumber ByOne : (op : Sign) → Kind

abbrev pub kind_at : Sign → Option Kind
kind_at sign.PlusEqual = Some (With sign.Plus)
kind_at sign.MinusEqual = Some (With sign.Minus)
kind_at sign.StarEqual = Some (With sign.Star)
kind_at sign.AmpersandEqual = Some (With sign.Ampersand)
kind_at sign.CaretEqual = Some (With sign.Caret)
kind_at sign.BarEqual = Some (With sign.Bar)
kind_at sign.SlashEqual = Some (ByNumber sign.Slash)
kind_at sign.PercentEqual = Some (ByNumber sign.Percent)
kind_at sign.ShiftLeftEqual = Some (ByNumber sign.ShiftLeft)
kind_at sign.ShiftRightEqual = Some (ByNumber sign.ShiftRight)
kind_at sign.PlusPlus = Some (ByOne sign.Plus)
kind_at sign.MinusMinus = Some (ByOne sign.Minus)
kind_at _ = None

abbrev pub kind_of : Terminal → Option Kind
kind_of (Mark s) = kind_at s
kind_of _ = None

-- ---- what is assigned

abbrev pub is_name : Terminal → Bool
is_name (Name x) = true
is_name _ = false

-- behind an index with so many open brackets comes a semicolon
abbrev pub closes_index : ℕ → Items → Bool
closes_index n [] = false
closes_index n (i ∷ []) = false
closes_index n (i ∷ j ∷ is) =
    if is_mark sign.Semicolon i then false
    else (if is_mark sign.OpenBracket i then closes_index (n + 1) (j ∷ is)
    else (if is_mark sign.CloseBracket i then (if nat_le n 1 then is_mark sign.Semicolon j else closes_index (n - 1) (j ∷ is))
    else closes_index n (j ∷ is)))

-- a name, or a cell, and a semicolon
abbrev pub is_target_ended : Items → Bool
is_target_ended [] = false
is_target_ended (i ∷ []) = false
is_target_ended (i ∷ j ∷ is) = is_name i.terminal && (is_mark sign.Semicolon j || closes_index 0 (j ∷ is))

abbrev pub reversed : Items → Items → Items
reversed [] is = is
reversed (i ∷ is) js = reversed is (i ∷ js)

-- the tokens are a name, or one with brackets behind it, of which the last ends them
abbrev pub is_cell : Bool → Items → Bool
is_cell first [] = false
is_cell first (i ∷ []) = not first && is_mark sign.CloseBracket i
is_cell first (i ∷ j ∷ is) = (not first || is_mark sign.OpenBracket i) && is_cell false (j ∷ is)

abbrev pub is_target : Items → Bool
is_target [] = false
is_target (i ∷ []) = is_name i.terminal
is_target (i ∷ is) = is_name i.terminal && is_cell true is

-- what a statement has assigned so far, whose tokens stand before, the last first
abbrev pub target : Items → Option Items
target since = let is = reversed since [] in if is_target is then Some is else None

-- ---- the state

-- in no head; in that of a loop, with so many brackets open; in a right side that was put in brackets, with so many open;
-- in a cell or scalar behind ++ or --, which stood there
pub data Where : Type 0 where
  Outside : Where
  InHead Grouped : (brackets : ℕ) → Where
  Behind : (op : Sign) → Where

pub record State : Type 0 where
  pub place : Where
  -- the tokens of the statement so far, the last first
  pub since : Items

abbrev pub begin : State
begin = record { place = Outside; since = [] }

abbrev pub Onward : Type 0
Onward = State → ℕ → Items

-- a statement is over, or none has begun
abbrev pub is_boundary : Terminal → Bool
is_boundary t =
    same (Mark sign.Semicolon) t || same (Mark sign.OpenBrace) t || same (Mark sign.CloseBrace) t

abbrev pub in_state : Where → Items → State
in_state p is = record { place = p; since = is }

-- the token by itself
abbrev pub kept : Item Terminal → State → Onward → Items
kept i s go = i ∷ go (in_state s.place (if is_boundary i.terminal then [] else i ∷ s.since)) 0

abbrev pub first_of : Items → Item Terminal → Item Terminal
first_of [] i = i
first_of (j ∷ js) i = j

abbrev pub is_number : Terminal → Bool
is_number (Num n) = true
is_number _ = false

abbrev pub is_number_ended : Items → Bool
is_number_ended (i ∷ j ∷ is) = is_number i.terminal && is_mark sign.Semicolon j
is_number_ended _ = false

abbrev pub is_ended : Items → Bool
is_ended [] = false
is_ended (i ∷ is) = is_mark sign.Semicolon i

-- = and what is assigned, with the operator
abbrev pub assigned : Item Terminal → Items → Sign → Items
assigned i lv op = at i (Mark sign.Equal) ∷ (lv ++ at i (Mark op) ∷ [])

abbrev pub grouped : Item Terminal → Items → Sign → Items → Onward → Items
grouped i lv op is go =
    assigned i lv op ++ (at (first_of is i) (Mark sign.OpenParen) ∷ go (in_state (Grouped 0) []) 0)

abbrev pub one_at : Item Terminal → Item Terminal
one_at i = at i (Num (Some 1))

-- a sign behind what is assigned
abbrev pub changed : Item Terminal → Items → Kind → Items → State → Onward → Items
changed i lv (With op) is s go = grouped i lv op is go
changed i lv (ByNumber op) is s go =
    if is_number_ended is then assigned i lv op ++ go (in_state Outside []) 0 else grouped i lv op is go
changed i lv (ByOne op) is s go =
    if is_ended is then assigned i lv op ++ (one_at i ∷ go (in_state Outside []) 0) else kept i s go

-- ++ or -- at the front of a statement
abbrev pub at_front : Item Terminal → Kind → Items → State → Onward → Items
at_front i (ByOne op) is s go = if is_target_ended is then go (in_state (Behind op) []) 0 else kept i s go
at_front i k is s go = kept i s go

abbrev pub by_target : Item Terminal → Kind → Items → State → Option Items → Onward → Items
by_target i k is s None go = kept i s go
by_target i k is s (Some lv) go = changed i lv k is s go

abbrev pub is_empty : Items → Bool
is_empty [] = true
is_empty (i ∷ is) = false

abbrev pub by_kind : Item Terminal → Option Kind → Items → State → Onward → Items
by_kind i None is s go = kept i s go
by_kind i (Some k) is s go = if is_empty s.since then at_front i k is s go else by_target i k is s (target s.since) go

-- ---- main

-- main and its open bracket stand before
abbrev pub is_main : Items → Bool
is_main (b ∷ m ∷ is) = is_mark sign.OpenParen b && same (Fixed Main) m.terminal
is_main _ = false

-- * NAME and the bracket
abbrev pub is_pointed : Items → Bool
is_pointed (p ∷ x ∷ b ∷ is) = is_mark sign.Star p && is_name x.terminal && is_mark sign.CloseParen b
is_pointed _ = false

-- NAME [ ] and the bracket
abbrev pub is_bracketed : Items → Bool
is_bracketed (x ∷ o ∷ c ∷ b ∷ is) =
    is_name x.terminal && is_mark sign.OpenBracket o && is_mark sign.CloseBracket c && is_mark sign.CloseParen b
is_bracketed _ = false

abbrev pub vector_len : Items → ℕ
vector_len is = if is_pointed is then 6 else (if is_bracketed is then 7 else 0)

-- behind the first type: how many tokens the words of the command have up to the bracket, as NAME, char **NAME or
-- NAME, char *NAME[]
abbrev pub words_len : Items → ℕ
words_len (x ∷ c ∷ t ∷ p ∷ is) =
    if is_name x.terminal && is_mark sign.Comma c && same (Name (codes "char")) t.terminal && is_mark sign.Star p
    then vector_len is else 0
words_len _ = 0

-- 0; and the last brace of the source
abbrev pub is_last_return : Items → Bool
is_last_return (n ∷ s ∷ b ∷ []) = is_zero n.terminal && is_mark sign.Semicolon s && is_mark sign.CloseBrace b
  where
    is_zero : Terminal → Bool
    is_zero (Num (Some n)) = nat_lt n 1
    is_zero _ = false
is_last_return _ = false

-- the type of the number of those words
abbrev pub has_words : Item Terminal → Items → State → Bool
has_words i is s = same (Fixed Int) i.terminal && is_main s.since && nat_lt 0 (words_len is)

abbrev pub without_words : Item Terminal → Items → State → Onward → Items
without_words i is s go = at i (Fixed Void) ∷ go (in_state Outside (i ∷ s.since)) (words_len is)

abbrev pub outside : Item Terminal → Items → State → Onward → Items
outside i is s go =
    if same (Fixed For) i.terminal then i ∷ go (in_state (InHead 0) []) 0
    else (if has_words i is s then without_words i is s go
    else (if is_mark sign.CloseParen i && is_main s.since then at i (Fixed Void) ∷ kept i s go
    else (if same (Name (codes "return")) i.terminal && is_empty s.since && is_last_return is then go s 2
    else by_kind i (kind_of i.terminal) is s go)))

-- ---- heads of loops

abbrev pub closes_head : Items → Bool
closes_head [] = false
closes_head (i ∷ is) = is_mark sign.CloseParen i

-- NAME ) behind ++
abbrev pub is_name_closed : Items → Bool
is_name_closed (x ∷ b ∷ is) = is_name x.terminal && is_mark sign.CloseParen b
is_name_closed _ = false

-- NUM and a semicolon behind <=: the number that is the limit with <, if it is one below 2 ^ 64
abbrev pub limit_behind : Items → Option (Option ℕ)
limit_behind (n ∷ s ∷ is) = if is_mark sign.Semicolon s then number_of n.terminal else None
  where
    number_of : Terminal → Option (Option ℕ)
    number_of (Num (Some k)) = if nat_lt (k + 1) (2 ^ 64) then Some (Some (k + 1)) else Some None
    number_of _ = None
limit_behind _ = None

abbrev pub limit_token : Option ℕ → Terminal
limit_token None = Unworked
limit_token (Some n) = Num (Some n)

abbrev pub limited : Item Terminal → Items → ℕ → State → Option (Option ℕ) → Onward → Items
limited i is n s None go = kept i s go
limited i is n s (Some o) go =
    at i (Mark sign.Less) ∷ at (first_of is i) (limit_token o) ∷ go (in_state (InHead n) []) 1

abbrev pub in_head : ℕ → Item Terminal → Items → State → Onward → Items
in_head n i is s go =
    if is_mark sign.OpenParen i then kept i (in_state (InHead (n + 1)) []) go
    else (if is_mark sign.CloseParen i then i ∷ go (in_state (if nat_le n 1 then Outside else InHead (n - 1)) []) 0
    else (if is_mark sign.LessEqual i then limited i is n s (limit_behind is) go
    else (if is_mark sign.PlusPlus i && closes_head is then at i (Mark sign.PlusEqual) ∷ one_at i ∷ go s 0
    else (if is_mark sign.PlusPlus i && is_name_closed is
    then first_of is i ∷ at i (Mark sign.PlusEqual) ∷ one_at i ∷ go s 1 else kept i s go))))

-- ---- right sides in brackets

abbrev pub close_at : Item Terminal → Item Terminal
close_at i = at i (Mark sign.CloseParen)

abbrev pub in_group : ℕ → Item Terminal → State → Onward → Items
in_group n i s go =
    if is_mark sign.OpenParen i then i ∷ go (in_state (Grouped (n + 1)) []) 0
    else (if is_mark sign.CloseParen i
    then (if nat_lt 0 n then i ∷ go (in_state (Grouped (n - 1)) []) 0 else close_at i ∷ i ∷ go (in_state Outside []) 0)
    else (if is_mark sign.Semicolon i then close_at i ∷ i ∷ go begin 0
    else (if is_boundary i.terminal then i ∷ go begin 0 else i ∷ go s 0)))

-- ---- all tokens

abbrev pub behind_front : Sign → Item Terminal → State → Onward → Items
behind_front op i s go =
    if is_mark sign.Semicolon i then assigned i (reversed s.since []) op ++ (one_at i ∷ i ∷ go begin 0) else kept i s go

abbrev pub token : Where → Item Terminal → Items → State → Onward → Items
token Outside i is s go = outside i is s go
token (InHead n) i is s go = in_head n i is s go
token (Grouped n) i is s go = in_group n i s go
token (Behind op) i is s go = behind_front op i s go

abbrev pub token_on : ℕ → State → Item Terminal → Items → Onward → Items
token_on (suc k) s i is go = go s k
token_on zero s i is go = token s.place i is s go

-- the tokens in full, of which k are left out
unfoldable pub in_full : State → ℕ → Items → Items
in_full s k [] = []
in_full s k (i ∷ is) =
    if is_directive i.terminal then i ∷ in_full s k is else token_on k s i (bare is) (λ s k. in_full s k is)
