-- Several constructs inside a target, one after the other: its line becomes that of a region of data, and stands again before
-- each of the constructs, and before each block and loop between them. So each is a target by itself, whose map clauses find
-- everything present.
use Rattle.std.specs.Prelude.{ℕ, ◌+◌, ◌-◌, ◌==◌, nat_le, Bool, true, false, not, ◌&&◌, ◌||◌, if◌then◌else◌, List, [], ◌∷◌, ◌++◌, drop, Option, Some, None, codes}
use Rattle.c_tokens.specs.declared.kind.Sign.TheVariants as sign
use Rattle.c_grammar.specs.Lexeme as lexeme
use Rattle.c_grammar.specs.Lexeme.{Lexeme, Reserved, Worded, If, For, Placed}
use Rattle.c_grammar.specs.Terminal.{Terminal, Fixed, Line, same}
use Rattle.c_grammar.specs.Texts.{Item}
use Rattle.c_grammar.specs.Blocks.{Items, is_atomic_line, is_directive}
use Rattle.c_grammar.specs.Changes.{is_mark}
use Rattle.c_grammar.specs.Constants.{with_tokens}
use Rattle.c_grammar.specs.Expressions.{placed_of}
use Rattle.c_grammar.specs.Lines.{is_omp}
use Rattle.c_grammar.specs.Nesting.{has, joins, moves, name_len}
use Rattle.c_grammar.specs.Presence.{closes_list, goes_on, is_else, is_target, is_word, opens_list, opens_part}

-- ---- the line of the target

-- a clause with this word stands there, behind a place in so many brackets
abbrev pub has_clause : List ℕ → ℕ → List Lexeme → Bool
has_clause x d [] = false
has_clause x d (t ∷ ts) =
    if opens_list t then has_clause x (d + 1) ts
    else (if closes_list t then has_clause x (d - 1) ts
    else (if (d == 0) && is_word x t then true else has_clause x d ts))

abbrev pub has_if : List Lexeme → Bool
has_if [] = false
has_if (t ∷ ts) = lexeme.same (Reserved If) t || has_if ts

-- a target with no words behind it, which the host waits for, and whose map clauses copy nothing that is present
abbrev pub may_part : List Lexeme → Bool
may_part ts =
    is_omp ts && is_target ts && (name_len (drop 3 ts) == 0) &&
    not (has_clause (codes "nowait") 0 ts || has_clause (codes "depend") 0 ts || has_if ts || has (codes "always") ts)

-- a clause that a region of data has too
abbrev pub is_of_data : Lexeme → Bool
is_of_data t = is_word (codes "map") t || is_word (codes "device") t

abbrev pub put_if : Bool → Placed → List Placed → List Placed
put_if b p ps = if b then p ∷ ps else ps

-- these clauses and the end of the line, behind a place in so many brackets, in such a clause or not
abbrev pub of_data : Bool → ℕ → List Placed → List Placed
of_data b d [] = []
of_data b d (p ∷ []) = p ∷ []
of_data b d (p ∷ q ∷ ps) =
    if opens_list p.lexeme then put_if b p (of_data b (d + 1) (q ∷ ps))
    else (if closes_list p.lexeme then put_if b p (of_data b (d - 1) (q ∷ ps))
    else (if d == 0 then put_if (is_of_data p.lexeme) p (of_data (is_of_data p.lexeme) 0 (q ∷ ps))
    else put_if b p (of_data b d (q ∷ ps))))

abbrev pub data_tokens : List Placed → List Placed
data_tokens (p ∷ o ∷ t ∷ ps) =
    p ∷ o ∷ t ∷ record { lexeme = Worded (codes "data"); column = t.column } ∷ of_data false 0 ps
data_tokens ps = ps

-- the line of the region of data; none where the target maps nothing
abbrev pub data_line : Item Terminal → Terminal → Items
data_line i (Line ts) =
    if is_omp ts && has_clause (codes "map") 0 ts then with_tokens i ts (data_tokens (placed_of ts i.columns)) ∷ [] else []
data_line i t = []

-- ---- what stands in the target

-- how many parts of a statement are open behind a token, before which so many are; none where the statement is over
abbrev pub open_behind : ℕ → Item Terminal → Items → Option ℕ
open_behind d i is =
    if opens_part i then Some (d + 1)
    else (if is_mark sign.CloseBrace i then (if goes_on d is then Some (d - 1) else None)
    else (if is_mark sign.CloseParen i then Some (d - 1)
    else (if is_mark sign.Semicolon i && (d == 0) then (if is_else is then Some 0 else None) else Some d)))

abbrev pub holds_on : Option ℕ → (ℕ → Bool) → Bool
holds_on None go = false
holds_on (Some d) go = go d

-- the statement that begins there has the line of a construct, and no other line before it but those of atomic updates
abbrev pub holds : Terminal → ℕ → Items → Bool
holds t d [] = false
holds t d (i ∷ is) =
    if is_directive i.terminal then (if joins t i.terminal then true else (if is_atomic_line i.terminal then holds t d is else false))
    else holds_on (open_behind d i is) (λ d. holds t d is)

-- where a token stands: before a statement in so many blocks; in the head of a loop with constructs, or behind it; in a
-- construct, block or loop that is a target by itself, with so many open parts
pub data At : Type 0 where
  Between Opening : (blocks : ℕ) → At
  Head Passing : (blocks parts : ℕ) → At

pub data Next : Type 0 where
  On : (at : At) → Next
  Over Stuck : Next

abbrev pub most_blocks : ℕ
most_blocks = 16

abbrev pub begins_block : Items → Bool
begins_block [] = false
begins_block (i ∷ is) = is_mark sign.OpenBrace i

abbrev pub begins_loop : Items → Bool
begins_loop [] = false
begins_loop (i ∷ is) = same (Fixed For) i.terminal

-- a construct teams has the target alone
abbrev pub has_teams : Terminal → Bool
has_teams (Line (p ∷ o ∷ t ∷ ts)) = is_word (codes "teams") t
has_teams t = false

abbrev pub left : ℕ → Next
left n = if nat_le n 1 then Over else On (Between (n - 1))

abbrev pub ended : ℕ → Next
ended n = if n == 0 then Over else On (Between n)

-- a block or a loop with constructs
abbrev pub opened : ℕ → Item Terminal → Next
opened n i =
    if nat_le most_blocks n then Stuck
    else (if is_mark sign.OpenBrace i then On (Between (n + 1))
    else (if same (Fixed For) i.terminal then On (Head n 0) else Stuck))

-- a block or a loop without
abbrev pub begun : ℕ → Item Terminal → Next
begun n i =
    if is_mark sign.OpenBrace i then On (Passing n 1)
    else (if same (Fixed For) i.terminal then On (Passing n 0) else Stuck)

abbrev pub construct : Terminal → ℕ → Terminal → Items → Next
construct t n u is = if joins t u && not (has_teams u) && begins_loop is then On (Passing n 0) else Stuck

abbrev pub between : Terminal → ℕ → Item Terminal → Items → Next
between t n i is =
    if is_directive i.terminal then construct t n i.terminal is
    else (if is_mark sign.CloseBrace i then left n
    else (if holds t 0 (i ∷ is) then opened n i else begun n i))

abbrev pub head_closed : ℕ → ℕ → Items → Next
head_closed n d is =
    if nat_le d 1 then (if begins_block is then On (Opening n) else Stuck) else On (Head n (d - 1))

abbrev pub in_head : ℕ → ℕ → Item Terminal → Items → Next
in_head n d i is =
    if is_directive i.terminal then Stuck
    else (if is_mark sign.OpenParen i then On (Head n (d + 1))
    else (if is_mark sign.CloseParen i then head_closed n d is else On (Head n d)))

abbrev pub passed : ℕ → Option ℕ → Next
passed n None = ended n
passed n (Some d) = On (Passing n d)

abbrev pub passing : ℕ → ℕ → Item Terminal → Items → Next
passing n d i is =
    if is_directive i.terminal then (if is_atomic_line i.terminal then On (Passing n d) else Stuck)
    else passed n (open_behind d i is)

abbrev pub step : Terminal → At → Item Terminal → Items → Next
step t (Between n) i is = between t n i is
step t (Opening n) i is = On (Between (n + 1))
step t (Head n d) i is = in_head n d i is
step t (Passing n d) i is = passing n d i is

abbrev pub fits_on : Next → (At → Bool) → Bool
fits_on (On a) go = go a
fits_on Over go = true
fits_on Stuck go = false

-- it can be taken apart up to its end
abbrev pub fits : Terminal → At → Items → Bool
fits t a [] = false
fits t a (i ∷ is) = fits_on (step t a i is) (λ a. fits t a is)

abbrev pub parts_line : Terminal → Bool
parts_line (Line ts) = may_part ts
parts_line t = false

-- the target has constructs, other than one with its loop alone
abbrev pub parts : Terminal → Items → Bool
parts t [] = false
parts t (j ∷ js) =
    parts_line t && not (is_directive j.terminal) && not (moves t j js) && holds t 0 (j ∷ js) && fits t (Between 0) (j ∷ js)

-- ---- all tokens

-- the line of a target, and where in it a token stands
pub record Inside : Type 0 where
  pub target : Item Terminal
  pub at : At

abbrev pub goes_to : Item Terminal → Next → Option Inside
goes_to t (On a) = Some (record { target = t; at = a })
goes_to t Over = None
goes_to t Stuck = None

abbrev pub is_between : At → Bool
is_between (Between n) = true
is_between a = false

abbrev pub begins_part : At → Next → Bool
begins_part a (On (Passing n d)) = is_between a
begins_part a next = false

-- the line before a part
abbrev pub lead : Inside → Next → Items
lead w next = if begins_part w.at next then w.target ∷ [] else []

abbrev pub in_parts_from : Option Inside → Items → Items
in_parts_from None [] = []
in_parts_from (Some w) [] = []
in_parts_from None (i ∷ is) =
    if parts i.terminal is
    then data_line i i.terminal ++ in_parts_from (Some (record { target = i; at = Between 0 })) is
    else i ∷ in_parts_from None is
in_parts_from (Some w) (i ∷ is) =
    let next = step w.target.terminal w.at i is in
    lead w next ++ (i ∷ in_parts_from (goes_to w.target next) is)

-- all tokens, with a target for each part of one with several constructs
abbrev pub in_parts : Items → Items
in_parts is = in_parts_from None is
