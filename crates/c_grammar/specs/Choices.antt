-- The conditional operator: a statement with c ? a : b in it stands twice, with a and with b in that place, in an if and its
-- else. Expressions have no effects, so c may come before the rest.
use Rattle.std.specs.Prelude.{ℕ, zero, suc, ◌+◌, ◌-◌, ◌==◌, nat_lt, Bool, true, false, not, ◌&&◌, ◌||◌, if◌then◌else◌, [], ◌∷◌, ◌++◌, length, map, take, drop, Option, Some, None, codes}
use Rattle.c_tokens.specs.declared.kind.Sign.{Sign}
use Rattle.c_tokens.specs.declared.kind.Sign.TheVariants as sign
use Rattle.c_grammar.specs.Lexeme.{Uint64, If, Else, Print}
use Rattle.c_grammar.specs.Terminal.{Terminal, Fixed, Mark, Name, Unknown, same}
use Rattle.c_grammar.specs.Texts.{Item}
use Rattle.c_grammar.specs.Blocks.{Items, at, bare, is_directive}
use Rattle.c_grammar.specs.Constants.{depth_behind, is_mark, is_name}
use Rattle.c_grammar.specs.Changes.{is_boundary, reversed}
use Rattle.c_grammar.specs.Unset.{zero_at}

-- ---- tokens

abbrev pub is_question : Item Terminal → Bool
is_question i = is_mark sign.Question i

-- the token by itself: in any other place a question mark is no token of the language
abbrev pub alone : Item Terminal → Item Terminal
alone i = if is_question i then at i Unknown else i

abbrev pub opens : Item Terminal → Bool
opens i = is_mark sign.OpenParen i || is_mark sign.OpenBracket i

abbrev pub closes : Item Terminal → Bool
closes i = is_mark sign.CloseParen i || is_mark sign.CloseBracket i

abbrev pub brackets_behind : Item Terminal → ℕ → ℕ
brackets_behind i b = if opens i then b + 1 else (if closes i then b - 1 else b)

abbrev pub sets_by : Sign → Bool
sets_by sign.Equal = true
sets_by sign.PlusEqual = true
sets_by sign.MinusEqual = true
sets_by sign.StarEqual = true
sets_by sign.SlashEqual = true
sets_by sign.PercentEqual = true
sets_by sign.AmpersandEqual = true
sets_by sign.BarEqual = true
sets_by sign.CaretEqual = true
sets_by sign.ShiftLeftEqual = true
sets_by sign.ShiftRightEqual = true
sets_by s = false

-- a sign that assigns
abbrev pub is_setting : Terminal → Bool
is_setting (Mark s) = sets_by s
is_setting t = false

-- ---- the parts of a statement at its first question mark

-- behind so many tokens stands the first question mark
abbrev pub question_at : ℕ → Items → Option ℕ
question_at n [] = None
question_at n (i ∷ is) = if is_question i then Some n else question_at (n + 1) is

-- a condition begins behind that token, where no brackets are closed in between
abbrev pub begins_condition : Item Terminal → Bool
begins_condition i = opens i || is_mark sign.Comma i || is_setting i.terminal

-- how many brackets are closed from a token on
abbrev pub brackets_before : Item Terminal → ℕ → ℕ
brackets_before i b = if closes i then b + 1 else (if opens i then b - 1 else b)

-- the condition has so many of the tokens before, the last first, of which n are read, with b brackets closed; or 0
abbrev pub condition_len : ℕ → ℕ → Items → ℕ
condition_len n b [] = 0
condition_len n b (i ∷ is) =
    if (b == 0) && begins_condition i then n else condition_len (n + 1) (brackets_before i b) is

-- what a token outside of brackets says of how many question marks have no colon
abbrev pub questions_behind : Item Terminal → ℕ → ℕ
questions_behind i d = if is_question i then d + 1 else (if is_mark sign.Colon i then d - 1 else d)

-- the first choice has so many tokens up to its colon; or 0
abbrev pub first_len : ℕ → ℕ → ℕ → Items → ℕ
first_len n b d [] = 0
first_len n b d (i ∷ is) =
    if b == 0
    then (if closes i then 0
    else (if is_mark sign.Colon i && (d == 0) then n else first_len (n + 1) (brackets_behind i b) (questions_behind i d) is))
    else first_len (n + 1) (brackets_behind i b) d is

abbrev pub ends_second : Item Terminal → Bool
ends_second i = closes i || is_mark sign.Comma i || is_mark sign.Semicolon i

-- the second choice has so many tokens; or 0
abbrev pub second_len : ℕ → ℕ → Items → ℕ
second_len n b [] = 0
second_len n b (i ∷ is) = if (b == 0) && ends_second i then n else second_len (n + 1) (brackets_behind i b) is

pub record Parts : Type 0 where
  pub mark : Item Terminal
  pub before : Items
  pub condition : Items
  pub first : Items
  pub second : Items
  pub behind : Items

-- with so many tokens in the condition and in the choices
abbrev pub cut_by : Item Terminal → Items → Items → ℕ → ℕ → ℕ → Option Parts
cut_by m before is n k l =
    if (n == 0) || (k == 0) || (l == 0) then None
    else Some (record {
      mark = m;
      before = take (length before - n) before;
      condition = drop (length before - n) before;
      first = take k is;
      second = take l (drop (k + 1) is);
      behind = drop l (drop (k + 1) is);
    })

-- before the question mark, and from it on
abbrev pub cut : Items → Items → Option Parts
cut before [] = None
cut before (m ∷ is) =
    let k : ℕ = first_len 0 0 0 is in
    cut_by m before is (condition_len 0 0 (reversed before [])) k (second_len 0 0 (drop (k + 1) is))

abbrev pub parts_at : Items → Option ℕ → Option Parts
parts_at is None = None
parts_at is (Some q) = cut (take q is) (drop q is)

abbrev pub parts : Items → Option Parts
parts is = parts_at is (question_at 0 is)

-- ---- the statement, put twice

abbrev pub all_alone : Items → Items
all_alone is = map alone is

-- if ( c ) { x } else { y }
abbrev pub either_at : Item Terminal → Items → Items → Items → Items
either_at i c x y =
    at i (Fixed If) ∷ at i (Mark sign.OpenParen) ∷ (all_alone c ++
    (at i (Mark sign.CloseParen) ∷ at i (Mark sign.OpenBrace) ∷ (x ++
    (at i (Mark sign.CloseBrace) ∷ at i (Fixed Else) ∷ at i (Mark sign.OpenBrace) ∷ (y ++ at i (Mark sign.CloseBrace) ∷ [])))))

abbrev pub with_first : Parts → Items
with_first p = p.before ++ (p.first ++ p.behind)

abbrev pub with_second : Parts → Items
with_second p = p.before ++ (p.second ++ p.behind)

abbrev pub lifted_by : Items → Option Parts → (Items → Items) → Items
lifted_by is None go = all_alone is
lifted_by is (Some p) go = either_at p.mark p.condition (go (with_first p)) (go (with_second p))

-- so many question marks deep
abbrev pub lifted : ℕ → Items → Items
lifted zero is = all_alone is
lifted (suc n) is = lifted_by is (parts is) (lifted n)

abbrev pub max_choices : ℕ
max_choices = 4

-- behind uint64_t: NAME = 0; and then the assignment
abbrev pub declared : Item Terminal → Items → Items
declared i [] = i ∷ []
declared i (x ∷ is) = i ∷ x ∷ (zero_at x ++ (at x (Mark sign.Semicolon) ∷ lifted max_choices (x ∷ is)))

-- behind a name: so many tokens up to the sign = that assigns a cell, before any question mark
abbrev pub left_len : ℕ → ℕ → Items → Option ℕ
left_len n b [] = None
left_len n b (i ∷ is) =
    if is_question i then None
    else (if (b == 0) && not (is_mark sign.OpenBracket i)
    then (if is_mark sign.Equal i && nat_lt 0 n then Some (n + 1) else None)
    else left_len (n + 1) (brackets_behind i b) is)

-- a name that no source can spell
abbrev pub held_name : Terminal
held_name = Name (codes "?")

-- such a cell surely gets a value, which a local holds: { uint64_t h = 0; and its assignment; then CELL = h; }
abbrev pub held : Item Terminal → Items → ℕ → Items
held i is n =
    at i (Mark sign.OpenBrace) ∷
    (declared (at i (Fixed Uint64)) (at i held_name ∷ at i (Mark sign.Equal) ∷ drop n is) ++
    (i ∷ (take n is ++
    (at i held_name ∷ at i (Mark sign.Semicolon) ∷ at i (Mark sign.CloseBrace) ∷ []))))

abbrev pub assigned : Item Terminal → Items → Option ℕ → Items
assigned i is None = lifted max_choices (i ∷ is)
assigned i is (Some n) = held i is n

abbrev pub written : Item Terminal → Items → Items
written i is =
    if same (Fixed Uint64) i.terminal then declared i is else assigned i is (left_len 0 0 is)

-- ---- which statements these are

-- behind a name: indices, of which so many brackets are open, and a sign that assigns
abbrev pub is_set : ℕ → Items → Bool
is_set b [] = false
is_set b (i ∷ is) =
    if (b == 0) && not (is_mark sign.OpenBracket i) then is_setting i.terminal else is_set (brackets_behind i b) is

abbrev pub is_bracket : Items → Bool
is_bracket [] = false
is_bracket (i ∷ is) = is_mark sign.OpenParen i

abbrev pub mentions : Terminal → Items → Bool
mentions t [] = false
mentions t (i ∷ is) = same t i.terminal || mentions t is

-- NAME = and what does not have that name
abbrev pub is_initial : Items → Bool
is_initial [] = false
is_initial (x ∷ []) = false
is_initial (x ∷ e ∷ is) = is_name x.terminal && is_mark sign.Equal e && not (mentions x.terminal is)

-- a token and those behind it up to the end of its statement
abbrev pub is_choice : Item Terminal → Items → Bool
is_choice i is =
    if same (Fixed Uint64) i.terminal then is_initial is
    else (if same (Fixed Print) i.terminal then is_bracket is else is_name i.terminal && is_set 0 is)

-- at most so many tokens stand between the first of a statement and its semicolon
abbrev pub max_between : ℕ
max_between = 510

-- the statement ends that many tokens behind its first, of which n are read, with b brackets open; there is a question mark
-- among them
abbrev pub statement_len : Bool → ℕ → ℕ → Items → Option ℕ
statement_len asks n b [] = None
statement_len asks n b (i ∷ is) =
    if is_boundary i.terminal then (if asks && (b == 0) && is_mark sign.Semicolon i then Some (n + 1) else None)
    else (if nat_lt n max_between then statement_len (asks || is_question i) (n + 1) (brackets_behind i b) is else None)

abbrev pub choice_of : Item Terminal → Items → Option ℕ → Option ℕ
choice_of i is None = None
choice_of i is (Some n) = if is_choice i (take n is) then Some n else None

-- ---- all tokens

-- how many blocks and brackets are open, and whether a statement begins
pub record State : Type 0 where
  pub blocks : ℕ
  pub brackets : ℕ
  pub starts : Bool

abbrev pub begin : State
begin = record { blocks = 0; brackets = 0; starts = false }

abbrev pub behind : Item Terminal → State → State
behind i s = record {
  blocks = depth_behind i.terminal s.blocks;
  brackets = brackets_behind i s.brackets;
  starts = (s.brackets == 0) && is_boundary i.terminal;
}

-- such a statement begins: so many tokens stand behind its first
abbrev pub choice_len : State → Item Terminal → Items → Option ℕ
choice_len s i is =
    if s.starts && not (s.blocks == 0) then choice_of i is (statement_len false 0 0 is) else None

abbrev pub Onward : Type 0
Onward = State → ℕ → Items

abbrev pub put_on : State → Item Terminal → Items → Option ℕ → Onward → Items
put_on s i is None go = alone i ∷ go (behind i s) 0
put_on s i is (Some n) go = written i (take n is) ++ go s n

abbrev pub chosen_on : State → ℕ → Item Terminal → Items → Onward → Items
chosen_on s zero i is go = put_on s i is (choice_len s i is) go
chosen_on s (suc k) i is go = go s k

-- the tokens, of which k more are left out
abbrev pub chosen_in : State → ℕ → Items → Items
chosen_in s k [] = []
chosen_in s k (i ∷ is) =
    if is_directive i.terminal then i ∷ chosen_in s k is else chosen_on s k i (bare is) (λ s k. chosen_in s k is)

abbrev pub chosen : Items → Items
chosen is = chosen_in begin 0 is
