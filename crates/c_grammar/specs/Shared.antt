-- What C shares between threads, and what it does not share: the name of a loop in the turns of a combined construct, where a
-- declaration before the line is the only one of it; an array of a block that a target with nowait uses; and a boxed scalar
-- that a target uses and does not map, of which C makes a copy, though there may be another one on the device; or of which each
-- thread has one, by firstprivate, though the line maps it; and an array of which a line sums up other cells than it maps. Such
-- a line gets a clause that names nothing, which is no clause of the grammar. The loops of the construct itself have names of
-- their own: one loop, or as many as collapse says.
use Rattle.std.specs.Prelude.{ℕ, ◌+◌, ◌-◌, ◌==◌, Bool, true, false, not, ◌&&◌, ◌||◌, if◌then◌else◌, List, [], ◌∷◌, ◌++◌, Some, codes}
use Rattle.c_tokens.specs.declared.kind.Sign.TheVariants as sign
use Rattle.c_grammar.specs.Lexeme as lexeme
use Rattle.c_grammar.specs.Lexeme.{Lexeme, Worded, Numbered, Uint64, For}
use Rattle.c_grammar.specs.Terminal.{Terminal, Fixed, Name, Line, same}
use Rattle.c_grammar.specs.Texts.{Item}
use Rattle.c_grammar.specs.Blocks.{Items, bare}
use Rattle.c_grammar.specs.Boxes.{at_begin, boxes_of, listed}
use Rattle.c_grammar.specs.Changes.{is_mark}
use Rattle.c_grammar.specs.Constants.{Names, depth_behind, with_tokens}
use Rattle.c_grammar.specs.Constants.{is_among as is_one}
use Rattle.c_grammar.specs.Counters as counters
use Rattle.c_grammar.specs.Counters.{Before, in_head, is_set}
use Rattle.c_grammar.specs.Expressions.{placed_of}
use Rattle.c_grammar.specs.LineForms.{is_sign}
use Rattle.c_grammar.specs.LineRules.{is_among}
use Rattle.c_grammar.specs.Lines.{is_omp}
use Rattle.c_grammar.specs.Nesting.{has, next_depth}
use Rattle.c_grammar.specs.Presence.{before_end, closes_list, is_target, is_word, no_clause, opens_list, target_column, uses, uses_on}
use Rattle.c_grammar.specs.Unset.{is_behind_type}
use Rattle.c_grammar.specs.Updates.{is_combined}

-- ---- lines

abbrev pub marked_at : Bool → Item Terminal → Terminal → Item Terminal
marked_at b i (Line ts) =
    if is_omp ts && (is_target ts && b)
    then with_tokens i ts (before_end (no_clause (target_column (placed_of ts i.columns))) (placed_of ts i.columns)) else i
marked_at b i t = i

-- all tokens, with such a clause on each line that is told to lack one, by what follows it
abbrev pub marked : (Terminal → Items → Bool) → Items → Items
marked f [] = []
marked f (i ∷ is) = marked_at (f i.terminal (bare is)) i i.terminal ∷ marked f is

-- ---- names of loops

-- how many loops a construct has; more than a nest may have where collapse has no number
abbrev pub loops_behind : List Lexeme → ℕ
loops_behind (o ∷ Numbered (Some n) ∷ ts) = n
loops_behind ts = 16

abbrev pub loops_on : List Lexeme → ℕ
loops_on [] = 1
loops_on (t ∷ ts) = if is_word (codes "collapse") t then loops_behind ts else loops_on ts

-- a clause that gives each turn a variable of its own
abbrev pub owns : Lexeme → Bool
owns t = is_word (codes "private") t || is_word (codes "firstprivate") t

-- whether the name stands in such a clause, in so many brackets, of which the first are those of one or not
abbrev pub is_own : List ℕ → ℕ → Bool → List Lexeme → Bool
is_own x d own [] = false
is_own x d own (t ∷ ts) =
    if opens_list t then is_own x (d + 1) own ts
    else (if closes_list t then is_own x (d - 1) own ts
    else (if d == 0 then is_own x 0 (owns t) ts
    else (if own && is_word x t then true else is_own x d own ts)))

-- what has been read of a region: how many loops of the construct are to come, whether the last loop was another one, what
-- stands before the next token, and the names that are declared in it
pub record Region : Type 0 where
  pub loops : ℕ
  pub inner : Bool
  pub before : Before
  pub names : Names

abbrev pub region_of : List Lexeme → Region
region_of ts = record { loops = loops_on ts; inner = false; before = counters.Other; names = [] }

abbrev pub declared_in : Region → Terminal → Names
declared_in r (Name x) = if is_behind_type r.before then x ∷ r.names else r.names
declared_in r t = r.names

abbrev pub behind : Region → Item Terminal → Region
behind r i = record {
  loops = if same (Fixed For) i.terminal then r.loops - 1 else r.loops;
  inner = if same (Fixed For) i.terminal then r.loops == 0 else r.inner;
  before = counters.behind r.before i;
  names = declared_in r i.terminal;
}

abbrev pub is_free : List Lexeme → Region → Terminal → Bool
is_free ts r (Name x) = not (is_among r.names x) && not (is_own x 0 false ts)
is_free ts r t = false

-- the name of an inner loop that the region does not declare, and the line does not name
abbrev pub is_shared : List Lexeme → Region → Item Terminal → Items → Bool
is_shared ts r i is = r.inner && (in_head r.before && (is_set is && is_free ts r i.terminal))

abbrev pub shares : List Lexeme → Region → ℕ → Items → Bool
shares ts r d [] = false
shares ts r d (i ∷ is) =
    if is_shared ts r i is then true else uses_on d i is (λ d. shares ts (behind r i) d is)

-- whether the name stands in the list of a map clause, and in no bound, in so many brackets, of which the first are those of one or
-- not
abbrev pub is_listed : List ℕ → ℕ → Bool → List Lexeme → Bool
is_listed x d map [] = false
is_listed x d map (t ∷ ts) =
    if opens_list t then is_listed x (d + 1) map ts
    else (if closes_list t then is_listed x (d - 1) map ts
    else (if d == 0 then is_listed x 0 (is_word (codes "map") t) ts
    else (if map && ((d == 1) && is_word x t) then true else is_listed x d map ts)))

abbrev pub maps_too : List Lexeme → Lexeme → Bool
maps_too ts (Worded x) = is_listed x 0 false ts
maps_too ts t = false

-- whether a name of a clause firstprivate is mapped on the line, in so many brackets, of which the first are those of one or not
abbrev pub is_copied : List Lexeme → ℕ → Bool → List Lexeme → Bool
is_copied ts d own [] = false
is_copied ts d own (u ∷ us) =
    if opens_list u then is_copied ts (d + 1) own us
    else (if closes_list u then is_copied ts (d - 1) own us
    else (if d == 0 then is_copied ts 0 (is_word (codes "firstprivate") u) us
    else (if own && maps_too ts u then true else is_copied ts d own us)))

-- ---- sums

abbrev pub is_number : ℕ → Lexeme → Bool
is_number n (Numbered (Some m)) = n == m
is_number n t = false

abbrev pub is_alike : Lexeme → Lexeme → Bool
is_alike (Numbered (Some n)) u = is_number n u
is_alike t u = lexeme.same t u

-- behind the name of an array the same bounds stand in two lists, or none; in so many brackets
abbrev pub same_bounds : ℕ → List Lexeme → List Lexeme → Bool
same_bounds d [] us = false
same_bounds d (t ∷ ts) [] = false
same_bounds d (t ∷ ts) (u ∷ us) =
    if (d == 0) && not (is_sign sign.OpenBracket t) then not (is_sign sign.OpenBracket u)
    else is_alike t u && same_bounds (next_depth d t) ts us

-- wherever a map clause lists the name, the bounds behind it are those; in so many brackets, of which the first are those of such
-- a clause or not
abbrev pub fits : List ℕ → List Lexeme → ℕ → Bool → List Lexeme → Bool
fits x us d map [] = true
fits x us d map (t ∷ ts) =
    if opens_list t then fits x us (d + 1) map ts
    else (if closes_list t then fits x us (d - 1) map ts
    else (if d == 0 then fits x us 0 (is_word (codes "map") t) ts
    else (if map && ((d == 1) && is_word x t) && not (same_bounds 0 us ts) then false else fits x us d map ts)))

abbrev pub fits_on : List Lexeme → Lexeme → List Lexeme → Bool
fits_on ts (Worded x) us = fits x us 0 false ts
fits_on ts u us = true

-- so it is with each name of the clauses reduction of a line, in so many brackets, of which the first are those of one or not
abbrev pub sums_fit : List Lexeme → ℕ → Bool → List Lexeme → Bool
sums_fit ts d sum [] = true
sums_fit ts d sum (u ∷ us) =
    if opens_list u then sums_fit ts (d + 1) sum us
    else (if closes_list u then sums_fit ts (d - 1) sum us
    else (if d == 0 then sums_fit ts 0 (is_word (codes "reduction") u) us
    else (if sum && (d == 1) && not (fits_on ts u us) then false else sums_fit ts d sum us)))

-- an array is summed up in other bounds than the line maps it: the sums of a thread have those cells alone, and all of them are
-- put into the array at the end
abbrev pub is_parted : List Lexeme → Bool
is_parted ts = not (sums_fit ts 0 false ts)

abbrev pub shares_at : Terminal → Items → Bool
shares_at (Line ts) is =
    is_copied ts 0 false ts || is_parted ts || (is_combined ts && shares ts (region_of ts) 0 is)
shares_at t is = false

-- all tokens, with such a clause on the lines of constructs whose turns share the name of a loop, have a copy of what the line
-- maps, or sum up other cells of an array than it maps
abbrev pub unshared : Items → Items
unshared is = marked shares_at is

-- ---- arrays of blocks

abbrev pub with_last : Terminal → Names → Names
with_last (Name x) xs = xs ++ x ∷ []
with_last t xs = xs

abbrev pub array_at : ℕ → Item Terminal → Items → Names → Names
array_at d i (x ∷ b ∷ is) xs =
    if not (d == 0) && (same (Fixed Uint64) i.terminal && is_mark sign.OpenBracket b) then with_last x.terminal xs else xs
array_at d i is xs = xs

-- the arrays that are declared in blocks
abbrev pub block_arrays : ℕ → Names → Items → Names
block_arrays d xs [] = xs
block_arrays d xs (i ∷ is) = block_arrays (depth_behind i.terminal d) (array_at d i is xs) is

abbrev pub uses_one : Names → Items → Bool
uses_one [] is = false
uses_one (x ∷ xs) is = uses x 0 is || uses_one xs is

abbrev pub waits_at : Names → Terminal → Items → Bool
waits_at xs (Line ts) is = has (codes "nowait") ts && uses_one xs is
waits_at xs t is = false

-- all tokens, with such a clause on the lines of targets with nowait that use one
abbrev pub awaited : Items → Items
awaited is = marked (waits_at (block_arrays 0 [] (bare is))) is

-- ---- boxed scalars

-- the line of a region of data, or one behind which data stay on a device
abbrev pub keeps_data : List Lexeme → Bool
keeps_data (p ∷ o ∷ t ∷ u ∷ ts) = is_word (codes "target") t && (is_word (codes "data") u || is_word (codes "enter") u)
keeps_data ts = false

abbrev pub kept_on : Terminal → Names → Names
kept_on (Line ts) xs = if is_omp ts && keeps_data ts then listed at_begin ts xs else xs
kept_on t xs = xs

-- the names in the lists of such lines, with these others
abbrev pub all_kept : Items → Names → Names
all_kept [] xs = xs
all_kept (i ∷ is) xs = all_kept is (kept_on i.terminal xs)

-- a clause by which a target has the variable itself
abbrev pub maps : Lexeme → Bool
maps t = is_word (codes "map") t || is_word (codes "reduction") t

-- whether the name stands in such a clause, in so many brackets, of which the first are those of one or not
abbrev pub is_mapped : List ℕ → ℕ → Bool → List Lexeme → Bool
is_mapped x d map [] = false
is_mapped x d map (t ∷ ts) =
    if opens_list t then is_mapped x (d + 1) map ts
    else (if closes_list t then is_mapped x (d - 1) map ts
    else (if d == 0 then is_mapped x 0 (maps t) ts
    else (if map && is_word x t then true else is_mapped x d map ts)))

-- the line names it otherwise, or other lines keep it
abbrev pub is_elsewhere : Names → List Lexeme → List ℕ → Bool
is_elsewhere kept ts x = is_one kept x || is_one (listed at_begin ts []) x

abbrev pub copies_one : Names → Names → List Lexeme → Items → Bool
copies_one [] kept ts is = false
copies_one (x ∷ xs) kept ts is =
    (uses x 0 is && (not (is_mapped x 0 false ts) && is_elsewhere kept ts x)) || copies_one xs kept ts is

abbrev pub copies_at : Names → Names → Terminal → Items → Bool
copies_at names kept (Line ts) is = copies_one names kept ts is
copies_at names kept t is = false

-- all tokens, with such a clause on the lines of targets that use a boxed scalar of which C makes a copy for them, while there
-- may be another one on the device
abbrev pub apart : Items → Items
apart is = marked (copies_at (boxes_of is) (all_kept is [])) is
