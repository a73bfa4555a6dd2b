-- Constructs inside a target: the line of one right behind that of the target, or alone in its block with its loop, belongs to
-- it, so that both are one combined construct. A condition of the target stays one of the target alone.
use Rattle.std.specs.Prelude.{ℕ, ◌+◌, ◌-◌, ◌==◌, Bool, true, false, not, ◌&&◌, ◌||◌, if◌then◌else◌, List, [], ◌∷◌, ◌++◌, map, take, drop, codes}
use Rattle.c_tokens.specs.declared.kind.Sign.TheVariants as sign
use Rattle.c_grammar.specs.Lexeme as lexeme
use Rattle.c_grammar.specs.Lexeme.{Lexeme, Reserved, Signed, Worded, Ended, For, If, Placed}
use Rattle.c_grammar.specs.Terminal.{Terminal, Fixed, Line, same}
use Rattle.c_grammar.specs.Texts.{Item}
use Rattle.c_grammar.specs.Blocks.{Items, is_directive}
use Rattle.c_grammar.specs.Changes.{is_mark}
use Rattle.c_grammar.specs.Constants.{with_tokens}
use Rattle.c_grammar.specs.Expressions.{placed_of}
use Rattle.c_grammar.specs.LineForms.{all_at, is_sign}
use Rattle.c_grammar.specs.Lines.{is_omp}
use Rattle.c_grammar.specs.Presence.{before_end, closes_list, goes_on, is_else, is_mapped, is_target, is_word, opens_list, opens_part, target_column}

-- ---- the names of constructs

abbrev pub is_for : Lexeme → Bool
is_for t = lexeme.same (Reserved For) t

-- a word of the name of a combined construct, behind target
abbrev pub is_part : Lexeme → Bool
is_part t =
    is_word (codes "teams") t || is_word (codes "distribute") t || is_word (codes "parallel") t || is_for t ||
    is_word (codes "simd") t || is_word (codes "loop") t

-- how many of them stand at the front
abbrev pub name_len : List Lexeme → ℕ
name_len [] = 0
name_len (t ∷ ts) = if is_part t then name_len ts + 1 else 0

-- the last of them, behind a word
abbrev pub last_word : Lexeme → List Lexeme → Lexeme
last_word t [] = t
last_word t (u ∷ us) = if is_part u then last_word u us else t

-- the name goes on with the second word behind the first, on a line of its own: behind distribute and for a loop has to follow
abbrev pub may_follow : Lexeme → Lexeme → Bool
may_follow t u =
    if is_word (codes "target") t then is_word (codes "teams") u || is_word (codes "parallel") u || is_word (codes "simd") u
    else (if is_word (codes "teams") t then is_word (codes "distribute") u || is_word (codes "loop") u
    else is_word (codes "parallel") t && (is_for u || is_word (codes "loop") u))

-- ---- two lines

abbrev pub has : List ℕ → List Lexeme → Bool
has x [] = false
has x (t ∷ ts) = is_word x t || has x ts

abbrev pub has_for : List Lexeme → Bool
has_for [] = false
has_for (t ∷ ts) = is_for t || has_for ts

-- a construct with these words takes a clause with this one
abbrev pub takes : List Lexeme → Lexeme → Bool
takes ns t =
    if is_word (codes "collapse") t then has (codes "distribute") ns || has_for ns || has (codes "simd") ns || has (codes "loop") ns
    else (if is_word (codes "num_teams") t || is_word (codes "thread_limit") t then has (codes "teams") ns
    else (if is_word (codes "num_threads") t then has (codes "parallel") ns
    else (if is_word (codes "schedule") t then has_for ns
    else (if is_word (codes "simdlen") t || is_word (codes "safelen") t then has (codes "simd") ns
    else (if is_word (codes "default") t || is_word (codes "shared") t then has (codes "teams") ns || has (codes "parallel") ns
    else (if is_word (codes "reduction") t
    then has (codes "teams") ns || has (codes "parallel") ns || has (codes "simd") ns || has (codes "loop") ns
    else is_word (codes "firstprivate") t || is_word (codes "private") t))))))

-- a clause that a target by itself does not take
abbrev pub is_of_construct : Lexeme → Bool
is_of_construct t =
    is_word (codes "collapse") t || is_word (codes "num_teams") t || is_word (codes "num_threads") t ||
    is_word (codes "schedule") t || is_word (codes "simdlen") t || is_word (codes "safelen") t ||
    is_word (codes "default") t || is_word (codes "shared") t || is_word (codes "reduction") t

-- what stands between clauses
abbrev pub is_between : Lexeme → Bool
is_between t = is_sign sign.Comma t || lexeme.same Ended t

-- the clauses of a line inside, whose construct has these words, behind a place in so many brackets
abbrev pub are_inner : List Lexeme → ℕ → List Lexeme → Bool
are_inner ns d [] = true
are_inner ns d (t ∷ ts) =
    if opens_list t then are_inner ns (d + 1) ts
    else (if closes_list t then are_inner ns (d - 1) ts
    else (if (d == 0) && not (takes ns t || is_between t) then false else are_inner ns d ts))

-- a clause that would be of the construct inside too, where it stood on one line with it: one variable for all threads of that
abbrev pub is_of_outer : Lexeme → Bool
is_of_outer t = is_word (codes "private") t

abbrev pub is_if : Lexeme → Bool
is_if t = lexeme.same (Reserved If) t

abbrev pub is_named : List Lexeme → Lexeme → Bool
is_named ns (Worded x) = has x ns
is_named ns t = false

-- behind the word if: the condition is for a part that a target's construct with these words does not have
abbrev pub is_misplaced : List Lexeme → List Lexeme → Bool
is_misplaced ns (o ∷ w ∷ c ∷ ts) = is_sign sign.Colon c && not (is_word (codes "target") w || is_named ns w)
is_misplaced ns ts = false

abbrev pub is_strange : List Lexeme → Lexeme → List Lexeme → Bool
is_strange ns t ts =
    is_of_outer t || (is_if t && is_misplaced ns ts) || (is_of_construct t && not (takes ns t))

-- the same of the line of a target
abbrev pub are_own : List Lexeme → ℕ → List Lexeme → Bool
are_own ns d [] = true
are_own ns d (t ∷ ts) =
    if opens_list t then are_own ns (d + 1) ts
    else (if closes_list t then are_own ns (d - 1) ts
    else (if (d == 0) && is_strange ns t ts then false else are_own ns d ts))

abbrev pub is_mapped_on : List Lexeme → Lexeme → Bool
is_mapped_on ts (Worded x) = is_mapped x 0 false ts
is_mapped_on ts t = true

-- the names of the reduction clauses of a line inside stand in map clauses of the first line, since C maps none of them by
-- itself; in so many brackets, of which the first are those of such a clause or not
abbrev pub sums_mapped : List Lexeme → ℕ → Bool → List Lexeme → Bool
sums_mapped ts d sum [] = true
sums_mapped ts d sum (u ∷ us) =
    if opens_list u then sums_mapped ts (d + 1) sum us
    else (if closes_list u then sums_mapped ts (d - 1) sum us
    else (if d == 0 then sums_mapped ts 0 (is_word (codes "reduction") u) us
    else (if sum && (d == 1) && not (is_mapped_on ts u) then false else sums_mapped ts d sum us)))

-- behind the words pragma omp of the line inside
abbrev pub follows : Lexeme → List Lexeme → Bool
follows last [] = false
follows last (u ∷ us) =
    let k = name_len (u ∷ us) in may_follow last u && are_inner (take k (u ∷ us)) 0 (drop k (u ∷ us))

-- the last word of the name of a target's construct
abbrev pub construct_end : List Lexeme → Lexeme
construct_end (p ∷ o ∷ t ∷ ts) = last_word t ts
construct_end ts = Ended

-- what is summed up on the first line is so for each thread of the construct inside: that says so too, or is in its threads
abbrev pub sums_fit : List Lexeme → List Lexeme → Bool
sums_fit ts us =
    (not (has (codes "reduction") ts) || (has (codes "reduction") us || is_word (codes "parallel") (construct_end ts))) &&
    sums_mapped ts 0 false us

-- behind the words pragma omp target
abbrev pub is_own : List Lexeme → Bool
is_own ts = let k = name_len ts in are_own (take k ts) 0 (drop k ts)

abbrev pub fit : List Lexeme → List Lexeme → Bool
fit ts us = is_own (drop 3 ts) && follows (construct_end ts) (drop 2 us) && sums_fit ts us

abbrev pub join_lines : List Lexeme → List Lexeme → Bool
join_lines ts us = is_omp ts && is_target ts && is_omp us && fit ts us

-- all but the end of a line, at this column
abbrev pub inner_at : ℕ → List Placed → List Placed
inner_at column [] = []
inner_at column (p ∷ []) = []
inner_at column (p ∷ q ∷ ps) = record { lexeme = p.lexeme; column = column } ∷ inner_at column (q ∷ ps)

-- the k words of the second name behind the first n tokens, and the clauses before the end
abbrev pub joined_at : ℕ → ℕ → List Placed → List Placed → List Placed
joined_at n k inner ps = take n ps ++ (take k inner ++ before_end (drop k inner) (drop n ps))

abbrev pub joined_tokens : List Lexeme → List Lexeme → List Placed → List Placed → List Placed
joined_tokens ts us ps qs =
    joined_at (3 + name_len (drop 3 ts)) (name_len (drop 2 us)) (drop 2 (inner_at (target_column ps) qs)) ps

-- ---- conditions of a target

abbrev pub lexemes : List Placed → List Lexeme
lexemes ps = map (λ p. p.lexeme) ps

abbrev pub next_depth : ℕ → Lexeme → ℕ
next_depth d t = if opens_list t then d + 1 else (if closes_list t then d - 1 else d)

abbrev pub begins_with_colon : List Lexeme → Bool
begins_with_colon [] = false
begins_with_colon (t ∷ ts) = is_sign sign.Colon t

-- behind the bracket of a clause if: a word says what it is for
abbrev pub is_modified : List Lexeme → Bool
is_modified [] = false
is_modified (t ∷ ts) = begins_with_colon ts

-- the bracket of one that does not have such a word; behind if or not
abbrev pub opens_condition : Bool → Lexeme → List Lexeme → Bool
opens_condition conditional t ts = conditional && is_sign sign.OpenParen t && not (is_modified ts)

abbrev pub target_word : ℕ → List Placed
target_word column = all_at column (Worded (codes "target") ∷ Signed sign.Colon ∷ [])

-- clauses with this word in each such one, in so many brackets
abbrev pub targeted : Bool → ℕ → List Placed → List Placed
targeted conditional d [] = []
targeted conditional d (p ∷ ps) =
    p ∷ ((if opens_condition conditional p.lexeme (lexemes ps) then target_word p.column else []) ++
    targeted ((d == 0) && is_if p.lexeme) (next_depth d p.lexeme) ps)

-- the line of a target whose conditions are for the target alone, where these tokens stand behind its first three: the construct
-- inside does not have them, unless its threads are those of the target's own construct
abbrev pub conditioned : List Lexeme → List Placed → List Placed
conditioned ts ps =
    if has (codes "parallel") (take (name_len ts) ts) then ps else take 3 ps ++ targeted false 0 (drop 3 ps)

abbrev pub joined_line : List Lexeme → List Lexeme → List Placed → List Placed → List Placed
joined_line ts us ps qs = let cs = conditioned (drop 3 ts) ps in joined_tokens (lexemes cs) us cs qs

-- ---- all tokens

abbrev pub joins : Terminal → Terminal → Bool
joins (Line ts) (Line us) = join_lines ts us
joins t u = false

abbrev pub joined_of : Item Terminal → Item Terminal → Terminal → Terminal → Item Terminal
joined_of i j (Line ts) (Line us) = with_tokens i ts (joined_line ts us (placed_of ts i.columns) (placed_of us j.columns))
joined_of i j t u = i

-- the line of the target with what stands on that of the construct inside
abbrev pub joined : Item Terminal → Item Terminal → Item Terminal
joined i j = joined_of i j i.terminal j.terminal

-- behind the statement its block ends
abbrev pub closes_block : Items → Bool
closes_block [] = false
closes_block (i ∷ is) = is_mark sign.CloseBrace i

abbrev pub last_on : ℕ → Item Terminal → Items → (ℕ → Bool) → Bool
last_on d i is go =
    if opens_part i then go (d + 1)
    else (if is_mark sign.CloseBrace i then (if goes_on d is then go (d - 1) else closes_block is)
    else (if is_mark sign.CloseParen i then go (d - 1)
    else (if is_mark sign.Semicolon i && (d == 0) then (if is_else is then go 0 else closes_block is) else go d)))

-- the statement that begins there is the last one of its block; so many of its parts are open
abbrev pub is_last : ℕ → Items → Bool
is_last d [] = false
is_last d (i ∷ is) = if is_directive i.terminal then is_last d is else last_on d i is (λ d. is_last d is)

-- a loop, which the block has alone
abbrev pub is_only : Items → Bool
is_only [] = false
is_only (i ∷ is) = if is_directive i.terminal then is_only is else same (Fixed For) i.terminal && is_last 0 is

abbrev pub has_construct : Terminal → Items → Bool
has_construct t [] = false
has_construct t (j ∷ js) = joins t j.terminal && is_only js

-- the block of a target begins, which has a construct and its loop alone
abbrev pub moves : Terminal → Item Terminal → Items → Bool
moves t o is = is_mark sign.OpenBrace o && has_construct t is

-- a token, and those behind it
abbrev pub nested_on : Item Terminal → Items → Items
nested_on i [] = i ∷ []
nested_on i (j ∷ js) =
    if joins i.terminal j.terminal then nested_on (joined i j) js
    else (if moves i.terminal j js then j ∷ nested_on i js else i ∷ nested_on j js)

-- all tokens, with each target and the construct inside it on one line
abbrev pub nested : Items → Items
nested [] = []
nested (i ∷ is) = nested_on i is
