-- Updates that commute. In front of each one that a reduction clause gathers a line atomic update is put, and the clause says
-- of its arrays that they are mapped, where nothing else does. A line atomic in front of an update is atomic update, and so
-- is a line atomic compare in front of an if that stores the greater or the lesser of two numbers.
use Rattle.std.specs.Prelude.{ℕ, zero, suc, ◌+◌, ◌-◌, ◌==◌, Bool, true, false, not, ◌&&◌, ◌||◌, if◌then◌else◌, List, [], ◌∷◌, ◌++◌, length, map, take, drop, Option, Some, None, option_and_then, option_map, is_some, codes}
use Rattle.std.specs.Str.{bytes_eq}
use Rattle.c_tokens.specs.declared.kind.Sign.{Sign}
use Rattle.c_tokens.specs.declared.kind.Sign.TheVariants as sign
use Rattle.c_grammar.specs.Lexeme as lexeme
use Rattle.c_grammar.specs.Lexeme.{Lexeme, Signed, Worded, Numbered, Ended, Placed, If, Else}
use Rattle.c_grammar.specs.Terminal.{Terminal, Fixed, Mark, Name, Num, Line, same}
use Rattle.c_grammar.specs.Texts.{Item}
use Rattle.c_grammar.specs.Blocks.{Items, bare, is_directive}
use Rattle.c_grammar.specs.Changes.{Kind, With, ByNumber, ByOne, is_boundary, is_mark, kind_of}
use Rattle.c_grammar.specs.Constants.{Names, is_among, with_tokens}
use Rattle.c_grammar.specs.Expressions.{placed_of}
use Rattle.c_grammar.specs.Functions.{index_len}
use Rattle.c_grammar.specs.LineForms.{all_at, is_sign}
use Rattle.c_grammar.specs.Nesting.{name_len}
use Rattle.c_grammar.specs.Presence.{goes_on, is_mapped, is_target, is_word, opens_part}

-- ---- updates of a cell or a scalar

-- the operators of updates that commute
abbrev pub commutes : Sign → Bool
commutes sign.Plus = true
commutes sign.Star = true
commutes sign.Ampersand = true
commutes sign.Bar = true
commutes sign.Caret = true
commutes _ = false

-- the operator of op= and of op
abbrev pub changing : Option Kind → Items → Option Sign
changing None is = None
changing (Some (With op)) is = Some op
changing (Some (ByNumber op)) is = Some op
changing (Some (ByOne op)) [] = None
changing (Some (ByOne op)) (s ∷ is) = if is_mark sign.Semicolon s then Some op else None

abbrev pub sign_of : Terminal → Option Sign
sign_of (Mark s) = Some s
sign_of t = None

abbrev pub equal : Terminal → Terminal → Bool
equal (Num (Some a)) (Num (Some b)) = a == b
equal t u = same t u

-- these tokens stand at the front
abbrev pub begins_with : Items → Items → Bool
begins_with [] js = true
begins_with (i ∷ is) [] = false
begins_with (i ∷ is) (j ∷ js) = equal i.terminal j.terminal && begins_with is js

abbrev pub sign_at : Items → Option Sign
sign_at [] = None
sign_at (i ∷ is) = sign_of i.terminal

-- behind = the cell stands again, and then this sign
abbrev pub again : List ℕ → Items → Items → Option Sign
again x index [] = None
again x index (y ∷ is) =
    if same (Name x) y.terminal && begins_with index is then sign_at (drop (length index) is) else None

-- by which operator the cell of x with this index is changed, where these tokens stand behind it
abbrev pub changed : List ℕ → Items → Items → Option Sign
changed x index [] = None
changed x index (i ∷ is) = if is_mark sign.Equal i then again x index is else changing (kind_of i.terminal) is

abbrev pub begins_index : Items → Bool
begins_index [] = false
begins_index (i ∷ is) = is_mark sign.OpenBracket i

-- how many tokens the index of a cell has, and none where a scalar stands
abbrev pub place_len : Items → Option ℕ
place_len is = if begins_index is then index_len 0 0 is else Some 0

abbrev pub changed_behind : List ℕ → Items → Option ℕ → Option Sign
changed_behind x is None = None
changed_behind x is (Some k) = changed x (take k is) (drop k is)

-- by which operator x or a cell of it is changed, where these tokens stand behind the name: the statement is an update
abbrev pub update : List ℕ → Items → Option Sign
update x is = changed_behind x is (place_len is)

-- it commutes
abbrev pub is_commuting : Option Sign → Bool
is_commuting None = false
is_commuting (Some s) = commutes s

-- ---- the greater or the lesser of two numbers: if ( v > x[..] ) { x[..] = v; }, where an else may store x[..] in itself, or
-- does so in the place of the first store, and the other one v

abbrev pub is_round : Terminal → Bool
is_round t = same (Mark sign.OpenParen) t || same (Mark sign.CloseParen) t

-- the tokens up to so many semicolons and braces, without round brackets
abbrev pub flat : ℕ → Items → List Terminal
flat zero is = []
flat (suc n) [] = []
flat (suc n) (i ∷ is) =
    if is_round i.terminal then flat (suc n) is
    else i.terminal ∷ flat (if is_boundary i.terminal then n else suc n) is

-- how many tokens stand before the first such sign, behind n others
abbrev pub sign_in : Sign → ℕ → List Terminal → Option ℕ
sign_in s n [] = None
sign_in s n (t ∷ ts) = if same (Mark s) t then Some n else sign_in s (n + 1) ts

-- what stands before the sign, and what behind it
abbrev pub cut : Sign → List Terminal → Option (List Terminal × List Terminal)
cut s ts = option_map (λ n. (take n ts, drop (n + 1) ts)) (sign_in s 0 ts)

abbrev pub are_equal : List Terminal → List Terminal → Bool
are_equal [] [] = true
are_equal (t ∷ ts) (u ∷ us) = equal t u && are_equal ts us
are_equal ts us = false

-- place = value ; } and what stands behind that
pub record Stored : Type 0 where
  pub place : List Terminal
  pub value : List Terminal
  pub rest : List Terminal

abbrev pub closed : List Terminal → List Terminal → List Terminal → Option Stored
closed place value [] = None
closed place value (t ∷ ts) =
    if same (Mark sign.CloseBrace) t then Some (record { place = place; value = value; rest = ts }) else None

abbrev pub valued : List Terminal → List Terminal → Option Stored
valued place ts = option_and_then (λ p. closed place p.0 p.1) (cut sign.Semicolon ts)

abbrev pub stored_at : List Terminal → Option Stored
stored_at ts = option_and_then (λ p. valued p.0 p.1) (cut sign.Equal ts)

-- the value that the place may get, whether it gets it where the test does not hold, and how often the place stands in the
-- whole
pub record Given : Type 0 where
  pub value : List Terminal
  pub otherwise : Bool
  pub mentions : ℕ

abbrev pub given : List Terminal → Bool → ℕ → Option Given
given value otherwise n = Some (record { value = value; otherwise = otherwise; mentions = n })

-- the other store is one in the same place, and one of the two leaves it its own number
abbrev pub either_given : Stored → Option Stored → Option Given
either_given s None = None
either_given s (Some u) =
    if not (are_equal s.place u.place) then None
    else (if are_equal s.place u.value then given s.value false 4
    else (if are_equal s.place s.value then given u.value true 4 else None))

abbrev pub else_given : Stored → List Terminal → Option Given
else_given s [] = None
else_given s (b ∷ ts) = if same (Mark sign.OpenBrace) b then either_given s (stored_at ts) else None

abbrev pub given_before : Stored → List Terminal → Option Given
given_before s [] = given s.value false 2
given_before s (t ∷ ts) = if same (Fixed Else) t then else_given s ts else given s.value false 2

-- whether the left side is the greater one
abbrev pub relation : Terminal → Option Bool
relation (Mark sign.Less) = Some false
relation (Mark sign.LessEqual) = Some false
relation (Mark sign.Greater) = Some true
relation (Mark sign.GreaterEqual) = Some true
relation t = None

abbrev pub related : List Terminal → List Terminal → Option Bool
related right [] = None
related right (t ∷ ts) = if are_equal right ts then relation t else None

-- how the sides of the test are related, if they are these
abbrev pub between : List Terminal → List Terminal → List Terminal → Option Bool
between left right test =
    if are_equal left (take (length left) test) then related right (drop (length left) test) else None

abbrev pub either : Option Bool → Option Bool → Option Bool
either None g = option_map not g
either (Some g) other = Some g

-- whether the place gets the greater number, where it is tested against the value
abbrev pub greater : List Terminal → List Terminal → List Terminal → Option Bool
greater place value test = either (between value place test) (between place value test)

-- binds less tight than what may stand at a side of such a test
abbrev pub is_loose : Terminal → Bool
is_loose (Mark sign.Less) = true
is_loose (Mark sign.LessEqual) = true
is_loose (Mark sign.Greater) = true
is_loose (Mark sign.GreaterEqual) = true
is_loose (Mark sign.EqualEqual) = true
is_loose (Mark sign.NotEqual) = true
is_loose (Mark sign.Ampersand) = true
is_loose (Mark sign.Caret) = true
is_loose (Mark sign.Bar) = true
is_loose (Mark sign.AndAnd) = true
is_loose (Mark sign.OrOr) = true
is_loose t = false

abbrev pub depth_behind : Terminal → ℕ → ℕ
depth_behind t d =
    if same (Mark sign.OpenBracket) t then d + 1 else (if same (Mark sign.CloseBracket) t then d - 1 else d)

-- the name does not stand there, and outside of square brackets no such operator does
abbrev pub is_side : List ℕ → ℕ → List Terminal → Bool
is_side x d [] = true
is_side x d (t ∷ ts) =
    if same (Name x) t || ((d == 0) && is_loose t) then false else is_side x (depth_behind t d) ts

-- a name, whether it or a cell of it gets the greater number, and how often it stands there
pub record Extreme : Type 0 where
  pub name : List ℕ
  pub greatest : Bool
  pub mentions : ℕ

abbrev pub extreme_with : List ℕ → Bool → ℕ → Option Bool → Option Extreme
extreme_with x otherwise n None = None
extreme_with x otherwise n (Some g) =
    Some (record { name = x; greatest = if otherwise then not g else g; mentions = n })

abbrev pub extreme_by : List Terminal → List Terminal → Given → Option Extreme
extreme_by test (Name x ∷ index) g =
    if is_side x 0 index && is_side x 0 g.value
    then extreme_with x g.otherwise g.mentions (greater (Name x ∷ index) g.value test) else None
extreme_by test place g = None

abbrev pub extreme_among : List Terminal → Stored → Option Extreme
extreme_among test s = option_and_then (extreme_by test s.place) (given_before s s.rest)

abbrev pub extreme_in : List Terminal → List Terminal → Option Extreme
extreme_in test ts = option_and_then (extreme_among test) (stored_at ts)

abbrev pub extreme_of : List Terminal → Option Extreme
extreme_of ts = option_and_then (λ p. extreme_in p.0 p.1) (cut sign.OpenBrace ts)

-- the same of an if, where these tokens stand behind the word
abbrev pub extreme_at : Items → Option Extreme
extreme_at is = extreme_of (flat 6 is)

-- ---- what stands in a region

abbrev pub is_by : Sign → Option Sign → Bool
is_by op None = false
is_by op (Some s) = same (Mark op) (Mark s) && commutes op

abbrev pub is_assigned : Items → Bool
is_assigned [] = false
is_assigned (i ∷ is) = is_mark sign.Equal i

-- how many tokens there are from the name to the same name behind the sign =, where that follows
abbrev pub again_at : Option ℕ → Items → ℕ
again_at None is = 0
again_at (Some k) is = if is_assigned (drop k is) then k + 2 else 0

-- what goes on behind a token: with how many open parts, whether a statement begins, how many tokens there are up to the name
-- that may stand again
abbrev pub Onward : Type 0
Onward = ℕ → Bool → ℕ → Bool

abbrev pub mention : List ℕ → Sign → ℕ → Bool → ℕ → Items → Onward → Bool
mention x op d starts (suc zero) is go = go d false 0
mention x op d starts n is go =
    starts && is_by op (update x is) && go d false (again_at (place_len is) is)

abbrev pub other : ℕ → ℕ → Item Terminal → Items → Onward → Bool
other d n i is go =
    if opens_part i then go (d + 1) (is_boundary i.terminal) (n - 1)
    else (if is_mark sign.CloseBrace i then (if goes_on d is then go (d - 1) true (n - 1) else true)
    else (if is_mark sign.CloseParen i then go (d - 1) false (n - 1)
    else (if is_mark sign.Semicolon i && (d == 0) then true else go d (is_boundary i.terminal) (n - 1))))

-- up to the end of the region the name stands in updates by this operator alone
abbrev pub is_summed : List ℕ → Sign → ℕ → Bool → ℕ → Items → Bool
is_summed x op d starts n [] = true
is_summed x op d starts n (i ∷ is) =
    if is_directive i.terminal then is_summed x op d starts n is
    else (if same (Name x) i.terminal then mention x op d starts n (bare is) (λ d s n. is_summed x op d s n is)
    else other d n i is (λ d s n. is_summed x op d s n is))

-- the number n, or how often the name stands in an if that stores the greater number in it, or the lesser
abbrev pub allowed : List ℕ → Bool → ℕ → Option Extreme → ℕ
allowed x greatest n None = n
allowed x greatest n (Some e) =
    if bytes_eq x e.name && (if greatest then e.greatest else not e.greatest) then e.mentions else n

abbrev pub allowed_at : List ℕ → Bool → Bool → ℕ → Item Terminal → Items → ℕ
allowed_at x greatest starts n i is =
    if starts && same (Fixed If) i.terminal then allowed x greatest n (extreme_at is) else n

abbrev pub allowed_on : ℕ → (ℕ → Bool) → Bool
allowed_on zero go = false
allowed_on (suc n) go = go n

-- up to the end of the region the name stands in such ifs alone; so often in one that has begun
abbrev pub is_gathered : List ℕ → Bool → ℕ → Bool → ℕ → Items → Bool
is_gathered x greatest d starts n [] = true
is_gathered x greatest d starts n (i ∷ is) =
    if is_directive i.terminal then is_gathered x greatest d starts n is
    else (if same (Name x) i.terminal then allowed_on n (λ n. is_gathered x greatest d false n is)
    else other d 0 i is (λ d s k. is_gathered x greatest d s (allowed_at x greatest starts n i is) is))

-- the operator of a reduction: a sign, or the words min and max
pub data Operation : Type 0 where
  BySign : (op : Sign) → Operation
  ByExtreme : (greatest : Bool) → Operation

abbrev pub is_reduced : List ℕ → Operation → Items → Bool
is_reduced x (BySign op) is = is_summed x op 0 false 0 is
is_reduced x (ByExtreme greatest) is = is_gathered x greatest 0 false 0 is

abbrev pub are_summed : Names → Operation → Items → Bool
are_summed [] op is = true
are_summed (x ∷ xs) op is = is_reduced x op is && are_summed xs op is

-- ---- reduction clauses

-- where a token of the list stands: a name; behind one; the two numbers of a section with what stands between and behind
pub data Slot : Type 0 where
  AtName BehindName AtFirst AtColon AtCount AtEnd BehindSection : Slot

abbrev pub is_number : Lexeme → Bool
is_number (Numbered n) = true
is_number t = false

abbrev pub is_name : Lexeme → Bool
is_name (Worded x) = true
is_name t = false

abbrev pub slot_if : Bool → Slot → Option Slot
slot_if b s = if b then Some s else None

abbrev pub next_slot : Slot → Lexeme → Option Slot
next_slot AtName t = slot_if (is_name t) BehindName
next_slot BehindName t =
    if is_sign sign.OpenBracket t then Some AtFirst else slot_if (is_sign sign.Comma t) AtName
next_slot AtFirst t = slot_if (is_number t) AtColon
next_slot AtColon t = slot_if (is_sign sign.Colon t) AtCount
next_slot AtCount t = slot_if (is_number t) AtEnd
next_slot AtEnd t = slot_if (is_sign sign.CloseBracket t) BehindSection
next_slot BehindSection t = slot_if (is_sign sign.Comma t) AtName

abbrev pub may_end : Slot → Bool
may_end BehindName = true
may_end BehindSection = true
may_end s = false

abbrev pub with_word : Lexeme → Names → Names
with_word (Worded x) xs = x ∷ xs
with_word t xs = xs

-- a reduction: its operator, its arrays, and how many tokens the clause has
pub record Reduction : Type 0 where
  pub op : Operation
  pub names : Names
  pub len : ℕ

abbrev pub listed_on : Option Slot → (Slot → Option Reduction) → Option Reduction
listed_on None go = None
listed_on (Some s) go = go s

-- behind so many tokens of the clause the list goes on
abbrev pub listed : Operation → Names → ℕ → Slot → List Lexeme → Option Reduction
listed op xs k s [] = None
listed op xs k s (t ∷ ts) =
    if may_end s && is_sign sign.CloseParen t then Some (record { op = op; names = xs; len = k + 1 })
    else listed_on (next_slot s t) (λ s. listed op (with_word t xs) (k + 1) s ts)

abbrev pub operation_of : Lexeme → Option Operation
operation_of (Signed op) = if commutes op then Some (BySign op) else None
operation_of t =
    if is_word (codes "max") t then Some (ByExtreme true)
    else (if is_word (codes "min") t then Some (ByExtreme false) else None)

abbrev pub listed_by : Lexeme → List Lexeme → Option Reduction
listed_by t ts = option_and_then (λ op. listed op [] 4 AtName ts) (operation_of t)

-- the clause at the front
abbrev pub reduction_at : List Lexeme → Option Reduction
reduction_at (w ∷ o ∷ s ∷ c ∷ ts) =
    if is_word (codes "reduction") w && is_sign sign.OpenParen o && is_sign sign.Colon c then listed_by s ts else None
reduction_at ts = None

abbrev pub all_mapped : Names → List Lexeme → Bool
all_mapped [] ts = true
all_mapped (x ∷ xs) ts = is_mapped x 0 false ts && all_mapped xs ts

abbrev pub none_mapped : Names → List Lexeme → Bool
none_mapped [] ts = true
none_mapped (x ∷ xs) ts = not (is_mapped x 0 false ts) && none_mapped xs ts

-- of the line with these tokens, over this region
abbrev pub is_taken : List Lexeme → Items → Reduction → Bool
is_taken ts is r = are_summed r.names r.op is && (all_mapped r.names ts || none_mapped r.names ts)

abbrev pub taken : List Lexeme → Items → Option Reduction → Option Reduction
taken ts is None = None
taken ts is (Some r) = if is_taken ts is r then Some r else None

-- the clause that is taken at the front
abbrev pub taken_at : List Lexeme → Items → List Lexeme → Option Reduction
taken_at ts is us = taken ts is (reduction_at us)

abbrev pub with_names : Option Reduction → Names → Names
with_names None xs = xs
with_names (Some r) xs = r.names ++ xs

-- the arrays of all clauses that are taken
abbrev pub summed : List Lexeme → Items → List Lexeme → Names
summed ts is [] = []
summed ts is (u ∷ us) = with_names (taken_at ts is (u ∷ us)) (summed ts is us)

-- map(tofrom: in the place of the first four tokens
abbrev pub mapped_words : ℕ → List Placed
mapped_words column =
    all_at column (Worded (codes "map") ∷ Signed sign.OpenParen ∷ Worded (codes "tofrom") ∷ Signed sign.Colon ∷ [])

abbrev pub clause_on : List Lexeme → Placed → Option Reduction → (ℕ → List Placed) → List Placed
clause_on ts p None go = p ∷ go 0
clause_on ts p (Some r) go = if all_mapped r.names ts then go (r.len - 1) else mapped_words p.column ++ go 3

abbrev pub lexemes : List Placed → List Lexeme
lexemes ps = map (λ p. p.lexeme) ps

abbrev pub token_on : List Lexeme → Items → ℕ → Placed → List Placed → (ℕ → List Placed) → List Placed
token_on ts is (suc k) p ps go = go k
token_on ts is zero p ps go = clause_on ts p (taken_at ts is (lexemes (p ∷ ps))) go

-- the line without the clauses that are taken, or with maps in their place; k more tokens are left out
abbrev pub reduced : List Lexeme → Items → ℕ → List Placed → List Placed
reduced ts is k [] = []
reduced ts is k (p ∷ ps) = token_on ts is k p ps (λ k. reduced ts is k ps)

-- the line of a target that is a combined construct
abbrev pub is_combined : List Lexeme → Bool
is_combined ts = is_target ts && not (name_len (drop 3 ts) == 0)

-- ---- atomic lines

-- atomic, or atomic update
abbrev pub is_atomic : List Lexeme → Bool
is_atomic (p ∷ o ∷ a ∷ e ∷ []) = is_word (codes "atomic") a && lexeme.same Ended e
is_atomic (p ∷ o ∷ a ∷ u ∷ e ∷ []) =
    is_word (codes "atomic") a && is_word (codes "update") u && lexeme.same Ended e
is_atomic ts = false

-- atomic compare
abbrev pub is_compare : List Lexeme → Bool
is_compare (p ∷ o ∷ a ∷ u ∷ e ∷ []) =
    is_word (codes "atomic") a && is_word (codes "compare") u && lexeme.same Ended e
is_compare ts = false

-- an if without else
abbrev pub is_short : Option Extreme → Bool
is_short None = false
is_short (Some e) = e.mentions == 2

-- an if follows that stores the greater or the lesser of two numbers
abbrev pub has_extreme : Items → Bool
has_extreme [] = false
has_extreme (i ∷ is) = same (Fixed If) i.terminal && is_short (extreme_at is)

abbrev pub named_update : Terminal → Items → Bool
named_update (Name x) is = is_some (update x is)
named_update t is = false

-- an update follows
abbrev pub has_update : Items → Bool
has_update [] = false
has_update (i ∷ is) = named_update i.terminal is

-- it commutes
abbrev pub is_updated : Terminal → Items → Bool
is_updated (Name x) is = is_commuting (update x is)
is_updated t is = false

abbrev pub behind_word : List Placed → List Placed
behind_word [] = []
behind_word (e ∷ []) = e ∷ []
behind_word (u ∷ e ∷ ps) = e ∷ ps

abbrev pub word_if : Bool → ℕ → List Placed
word_if b column = if b then all_at column (Worded (codes "update") ∷ []) else []

-- with the word update where one follows, and without it where none does
abbrev pub atomic_tokens : Bool → List Placed → List Placed
atomic_tokens b (p ∷ o ∷ a ∷ ps) = p ∷ o ∷ a ∷ (word_if b a.column ++ behind_word ps)
atomic_tokens b ps = ps

-- the line in front of an update that a reduction gathers
abbrev pub mark_words : List Lexeme
mark_words =
    Worded (codes "pragma") ∷ Worded (codes "omp") ∷ Worded (codes "atomic") ∷ Worded (codes "update") ∷ Ended ∷ []

abbrev pub mark_at : Item Terminal → Item Terminal
mark_at i = record {
  terminal = Line mark_words;
  line = i.line;
  column = i.column;
  columns = map (λ t. i.column) mark_words;
}

-- ---- all tokens

-- in no such region; in one, with the arrays of the clauses, so many open parts, and whether a statement begins
pub data Region : Type 0 where
  Outside : Region
  Inside : (names : Names) (depth : ℕ) (starts : Bool) → Region

abbrev pub behind : Names → ℕ → Item Terminal → Items → Region
behind xs d i is =
    if opens_part i then Inside xs (d + 1) (is_boundary i.terminal)
    else (if is_mark sign.CloseBrace i then (if goes_on d is then Inside xs (d - 1) true else Outside)
    else (if is_mark sign.CloseParen i then Inside xs (d - 1) false
    else (if is_mark sign.Semicolon i && (d == 0) then Outside else Inside xs d (is_boundary i.terminal))))

abbrev pub is_named : Names → Terminal → Bool
is_named xs (Name x) = is_among xs x
is_named xs t = false

abbrev pub is_extreme : Names → Option Extreme → Bool
is_extreme xs None = false
is_extreme xs (Some e) = is_among xs e.name

-- an update of one of these begins
abbrev pub is_changed : Names → Item Terminal → Items → Bool
is_changed xs i is =
    if same (Fixed If) i.terminal then is_extreme xs (extreme_at is)
    else is_named xs i.terminal && is_updated i.terminal (bare is)

abbrev pub OnRegion : Type 0
OnRegion = Region → Items

abbrev pub marked : Region → Item Terminal → Items → OnRegion → Items
marked Outside i is go = i ∷ go Outside
marked (Inside xs d starts) i is go =
    if starts && is_changed xs i is then mark_at i ∷ i ∷ go (behind xs d i is) else i ∷ go (behind xs d i is)

abbrev pub summed_line : Item Terminal → List Lexeme → Items → OnRegion → Items
summed_line i ts is go =
    with_tokens i ts (reduced ts is 0 (placed_of ts i.columns)) ∷ go (Inside (summed ts is ts) 0 false)

abbrev pub line_on : Item Terminal → List Lexeme → Items → Region → OnRegion → Items
line_on i ts is r go =
    if is_combined ts then summed_line i ts is go
    else (if is_atomic ts
    then with_tokens i ts (atomic_tokens (has_update (bare is)) (placed_of ts i.columns)) ∷ go r
    else (if is_compare ts && has_extreme is
    then with_tokens i ts (atomic_tokens true (placed_of ts i.columns)) ∷ go r else i ∷ go r))

abbrev pub directive_on : Item Terminal → Terminal → Items → Region → OnRegion → Items
directive_on i (Line ts) is r go = line_on i ts is r go
directive_on i t is r go = i ∷ go r

-- all tokens, with these lines
abbrev pub commuting : Region → Items → Items
commuting r [] = []
commuting r (i ∷ is) =
    if is_directive i.terminal then directive_on i i.terminal is r (λ r. commuting r is)
    else marked r i is (λ r. commuting r is)
