-- A directive line with its constants worked out, and with what it may leave out: commas between clauses, the first and the
-- last bound of a section, and the section of one element.
use Rattle.std.specs.Prelude.{ℕ, zero, suc, ◌+◌, ◌-◌, Bool, true, false, not, ◌&&◌, ◌||◌, ◌==◌, nat_lt, if◌then◌else◌, List, [], ◌∷◌, ◌++◌, map, take, Option, Some, None, codes}
use Rattle.std.specs.Str.{bytes_eq}
use Rattle.c_tokens.specs.declared.kind.Sign.{Sign}
use Rattle.c_tokens.specs.declared.kind.Sign.TheVariants as sign
use Rattle.c_grammar.specs.Lexeme.{Lexeme, Reserved, Signed, Worded, Numbered, If, Placed, same}
use Rattle.c_grammar.specs.Expressions.{Values, value_of, Nothing, Worked, Number, Fault, expression, as_items}

abbrev pub is_sign : Sign → Lexeme → Bool
is_sign s t = same (Signed s) t

abbrev pub is_worded : Lexeme → Bool
is_worded (Worded x) = true
is_worded _ = false

-- a clause may begin by it
abbrev pub begins_word : Lexeme → Bool
begins_word t = is_worded t || same (Reserved If) t

abbrev pub word_for : List ℕ → Option ℕ → Lexeme
word_for x None = Worded x
word_for x (Some n) = Numbered (Some n)

-- the token, with its number where it is a constant's name
abbrev pub put_word : Values → Lexeme → Lexeme
put_word vs (Worded x) = word_for x (value_of vs x)
put_word vs t = t

-- ---- what stands before, the last token first

abbrev pub last_is : Sign → List Lexeme → Bool
last_is s [] = false
last_is s (t ∷ ts) = is_sign s t

-- between the brackets of a clause
abbrev pub is_inside : List Lexeme → Bool
is_inside [] = false
is_inside (t ∷ ts) = if is_sign sign.OpenParen t then true else (if is_sign sign.CloseParen t then false else is_inside ts)

abbrev pub word_at : List Lexeme → List ℕ
word_at (Worded x ∷ ts) = x
word_at _ = []

-- the word of the clause that is open
abbrev pub clause_of : List Lexeme → List ℕ
clause_of [] = []
clause_of (t ∷ ts) = if is_sign sign.OpenParen t then word_at ts else clause_of ts

-- the first bound of a section is open
abbrev pub lacks_colon : List Lexeme → Bool
lacks_colon [] = false
lacks_colon (t ∷ ts) =
    if is_sign sign.OpenBracket t then true
    else (if is_sign sign.Colon t || is_sign sign.CloseBracket t || is_sign sign.OpenParen t then false else lacks_colon ts)

abbrev pub ends_clause : List Lexeme → Bool
ends_clause [] = false
ends_clause (t ∷ ts) = is_sign sign.CloseParen t || (same (Worded (codes "nowait")) t && not (is_inside ts))

-- a bound begins
abbrev pub begins_bound : List Lexeme → Bool
begins_bound [] = false
begins_bound (t ∷ ts) = is_sign sign.OpenBracket t || (is_sign sign.Colon t && lacks_colon ts)

-- a clause with a number in brackets
abbrev pub takes_number : List ℕ → Bool
takes_number x =
    bytes_eq x (codes "device") || bytes_eq x (codes "collapse") || bytes_eq x (codes "num_teams") ||
    bytes_eq x (codes "thread_limit") || bytes_eq x (codes "num_threads") || bytes_eq x (codes "simdlen") ||
    bytes_eq x (codes "safelen")

-- that number begins, or the one of a chunk
abbrev pub begins_number : List Lexeme → Bool
begins_number past =
    (last_is sign.OpenParen past && takes_number (clause_of past)) ||
    (last_is sign.Comma past && bytes_eq (clause_of past) (codes "schedule"))

-- ---- what is left out

abbrev pub begins_with_word : List Placed → Bool
begins_with_word [] = false
begins_with_word (p ∷ ps) = begins_word p.lexeme

-- a comma between two clauses
abbrev pub is_separator : List Lexeme → Lexeme → List Placed → Bool
is_separator past t rest = is_sign sign.Comma t && ends_clause past && begins_with_word rest

-- an element may stand for the section of length one
abbrev pub takes_element : List ℕ → Bool
takes_element x = bytes_eq x (codes "depend") || bytes_eq x (codes "to") || bytes_eq x (codes "from")

abbrev pub is_element : List Lexeme → Bool
is_element past = lacks_colon past && not (last_is sign.OpenBracket past) && takes_element (clause_of past)

-- how many cells there are behind the first l of n
abbrev pub cells_from : ℕ → Option ℕ → List Lexeme
cells_from l None = []
cells_from l (Some n) = if nat_lt l n then Numbered (Some (n - l)) ∷ [] else []

-- behind the first bound, if it is a number, and a colon: the rest of the array
abbrev pub rest_of : Values → List Lexeme → List Lexeme
rest_of lengths (c ∷ Numbered (Some l) ∷ o ∷ Worded x ∷ ts) =
    if is_sign sign.Colon c && is_sign sign.OpenBracket o then cells_from l (value_of lengths x) else []
rest_of lengths ts = []

-- what is left out before the token
abbrev pub left_out : Values → List Lexeme → Lexeme → List Lexeme
left_out lengths past t =
    if is_sign sign.Colon t && last_is sign.OpenBracket past then Numbered (Some 0) ∷ []
    else (if is_sign sign.CloseBracket t then
    (if is_element past then Signed sign.Colon ∷ Numbered (Some 1) ∷ [] else rest_of lengths past) else [])

-- ---- the line

-- among the first k tokens is one that no sum of numbers has
abbrev pub needs_work : ℕ → List Placed → Bool
needs_work zero ps = false
needs_work (suc k) [] = false
needs_work (suc k) (p ∷ ps) = is_more p.lexeme || needs_work k ps
  where
    is_more : Lexeme → Bool
    is_more (Signed s) = not (is_sign sign.Plus (Signed s))
    is_more _ = false

abbrev pub worth : List Placed → Option Worked → Option Worked
worth ps None = None
worth ps (Some (Fault k p)) = None
worth ps (Some (Number k n)) = if needs_work k ps then Some (Number k n) else None

-- ---- the numbers that a term begins with

abbrev pub is_number : Lexeme → Bool
is_number (Numbered (Some n)) = true
is_number _ = false

-- a number, or a sign between factors
abbrev pub is_factor : Lexeme → Bool
is_factor t = is_number t || is_sign sign.Star t || is_sign sign.Slash t || is_sign sign.Percent t

-- or a bracket round one, or what else may stand in brackets
abbrev pub is_within : Lexeme → Bool
is_within t =
    is_factor t || is_sign sign.OpenParen t || is_sign sign.CloseParen t || is_sign sign.Plus t || is_sign sign.Minus t ||
    is_sign sign.ShiftLeft t || is_sign sign.ShiftRight t

abbrev pub begins_with_name : Values → List Placed → Bool
begins_with_name vs [] = false
begins_with_name vs (p ∷ ps) = is_worded (put_word vs p.lexeme)

-- a product of numbers ends before the token, outside of brackets: it is the star before a name, or no product has it
abbrev pub ends_product : Values → Lexeme → List Placed → Bool
ends_product vs t ps =
    if is_sign sign.Star t then begins_with_name vs ps else not (is_factor t) && not (is_sign sign.OpenParen t)

-- so many brackets may be open in it
abbrev pub most_open : ℕ
most_open = 16

abbrev pub open_behind : ℕ → Lexeme → ℕ
open_behind d t = if is_sign sign.OpenParen t then d + 1 else (if is_sign sign.CloseParen t then d - 1 else d)

-- how many tokens the product at the front has, of which k are read, with d brackets open
abbrev pub product_len : Values → ℕ → ℕ → List Placed → Option ℕ
product_len vs d k [] = None
product_len vs d k (p ∷ ps) =
    let t = put_word vs p.lexeme in
    if (d == 0) && ends_product vs t ps then Some k
    else (if not (nat_lt d most_open) || not (is_within t) then None else product_len vs (open_behind d t) (k + 1) ps)

abbrev pub exactly : ℕ → Option Worked → Option Worked
exactly k (Some (Number j n)) = if j == k then Some (Number j n) else None
exactly k _ = None

abbrev pub product_of : Values → List Placed → Option ℕ → Option Worked
product_of vs ps None = None
product_of vs ps (Some k) = exactly k (expression vs false Nothing [] 0 (as_items 0 (take k ps)))

abbrev pub product_at : Values → List Placed → Option Worked
product_at vs ps = product_of vs ps (product_len vs 0 0 ps)

abbrev pub or_product : Values → List Placed → Option Worked → Option Worked
or_product vs ps (Some w) = Some w
or_product vs ps None = product_at vs ps

abbrev pub several : Option Worked → Option Worked
several (Some (Number k n)) = if nat_lt 1 k then Some (Number k n) else None
several _ = None

-- the constant expression that a bound, or the number of a clause, is; or the one that a term begins with
abbrev pub bound_at : Values → List Lexeme → List Placed → Option Worked
bound_at vs past ps =
    if begins_bound past then or_product vs ps (worth ps (expression vs false Nothing [] 0 (as_items 0 ps)))
    else (if last_is sign.Plus past || last_is sign.Minus past then product_at vs ps
    else (if begins_number past then several (expression vs false Nothing [] 0 (as_items 0 ps)) else None))

abbrev pub onto : List Lexeme → List Lexeme → List Lexeme
onto [] past = past
onto (t ∷ ts) past = onto ts (t ∷ past)

abbrev pub all_at : ℕ → List Lexeme → List Placed
all_at column ts = map (λ t. record { lexeme = t; column = column }) ts

abbrev pub written : List Lexeme → ℕ → List Lexeme → ℕ → (List Lexeme → ℕ → List Placed) → List Placed
written past column ts k go = all_at column ts ++ go (onto ts past) k

abbrev pub bound_or : Option Worked → List Lexeme → ℕ → List Lexeme → (List Lexeme → ℕ → List Placed) → List Placed
bound_or (Some (Number k n)) past column ts go = written past column (Numbered (Some n) ∷ []) (k - 1) go
bound_or _ past column ts go = written past column ts 0 go

abbrev pub line_token : Values → Values → List Lexeme → Placed → List Placed → (List Lexeme → ℕ → List Placed) → List Placed
line_token vs lengths past p ps go =
    if is_separator past p.lexeme ps then go past 0
    else bound_or (bound_at vs past (p ∷ ps)) past p.column (left_out lengths past p.lexeme ++ put_word vs p.lexeme ∷ []) go

-- the rest of a line behind these tokens, of which k more belong to the one before
unfoldable pub line_from : Values → Values → List Lexeme → ℕ → List Placed → List Placed
line_from vs lengths past k [] = []
line_from vs lengths past (suc k) (p ∷ ps) = line_from vs lengths past k ps
line_from vs lengths past zero (p ∷ ps) =
    line_token vs lengths past p ps (λ past k. line_from vs lengths past k ps)

-- behind the words pragma omp
abbrev pub line_in_full : Values → Values → List Placed → List Placed
line_in_full vs lengths [] = []
line_in_full vs lengths (p ∷ []) = p ∷ []
line_in_full vs lengths (p ∷ q ∷ ps) = p ∷ q ∷ line_from vs lengths [] 0 ps
