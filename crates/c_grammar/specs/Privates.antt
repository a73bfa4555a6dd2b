-- Clauses private of a target: a name in one that the region declares itself is private to each of its turns anyway. Loops have
-- declared their names by then.
use Rattle.std.specs.Prelude.{ℕ, zero, suc, ◌+◌, ◌-◌, ◌==◌, Bool, true, false, not, ◌&&◌, ◌||◌, if◌then◌else◌, List, [], ◌∷◌, Option, Some, None, codes}
use Rattle.c_tokens.specs.declared.kind.Sign.TheVariants as sign
use Rattle.c_grammar.specs.Lexeme.{Lexeme, Signed, Worded, Placed, Uint64}
use Rattle.c_grammar.specs.Terminal.{Terminal, Fixed, Name, Line, same}
use Rattle.c_grammar.specs.Texts.{Item}
use Rattle.c_grammar.specs.Blocks.{Items, bare}
use Rattle.c_grammar.specs.Changes.{is_mark}
use Rattle.c_grammar.specs.Clauses.{Place, Scope, at_begin, is_idle, names_len, place_after, up_to_next}
use Rattle.c_grammar.specs.Constants.{Names, with_tokens}
use Rattle.c_grammar.specs.Expressions.{placed_of}
use Rattle.c_grammar.specs.LineForms.{all_at, is_sign}
use Rattle.c_grammar.specs.Lines.{is_omp}
use Rattle.c_grammar.specs.Moves.{Before, Starts, all_moved, begins, behind, is_fresh, moved_names}
use Rattle.c_grammar.specs.Presence.{before_end, closes_list, goes_on, is_target, is_word, no_clause, opens_list, opens_part, target_column, uses_on}
use Rattle.c_grammar.specs.Updates.{is_combined}

-- ---- the names that a region declares

abbrev pub with_name : Terminal → Names → Names
with_name (Name x) xs = x ∷ xs
with_name t xs = xs

-- with the name that is declared by a token and the next one
abbrev pub with_declared : Item Terminal → Items → Names → Names
with_declared i [] xs = xs
with_declared i (j ∷ is) xs = if same (Fixed Uint64) i.terminal then with_name j.terminal xs else xs

-- behind a token in so many open parts, where these names are all if the region ends
abbrev pub region_on : ℕ → Item Terminal → Items → Names → (ℕ → Names) → Names
region_on d i is xs go =
    if opens_part i then go (d + 1)
    else (if is_mark sign.CloseBrace i then (if goes_on d is then go (d - 1) else xs)
    else (if is_mark sign.CloseParen i then go (d - 1)
    else (if is_mark sign.Semicolon i && (d == 0) then xs else go d)))

-- the names that the statement declares that begins there, with others
abbrev pub declared : Names → ℕ → Items → Names
declared xs d [] = xs
declared xs d (i ∷ is) =
    region_on d i is (with_declared i is xs) (λ d. declared (with_declared i is xs) d is)

-- ---- the clauses

-- what clauses are read with that name these alone
abbrev pub scope : Names → Scope
scope xs = record { names = xs; arrays = []; map_type = []; shares = false; captures = false; defers = false }

-- how many tokens stand behind the word of a clause with such names
abbrev pub private_len : Scope → List Placed → Option ℕ
private_len s (p ∷ o ∷ ps) =
    if is_word (codes "private") p.lexeme && is_sign sign.OpenParen o.lexeme then names_len s false 1 ps else None
private_len s ps = None

-- with the comma behind it
abbrev pub owned_len : Scope → List Placed → Option ℕ
owned_len s ps = up_to_next (private_len s ps) ps

-- how many tokens more are left out with the first, if it is: the comma before such a clause goes too
abbrev pub leaves : Scope → Place → List Placed → Option ℕ
leaves s at [] = None
leaves s at (p ∷ ps) =
    if not (at.depth == 0) then None
    else (if at.ended && is_sign sign.Comma p.lexeme && is_idle (owned_len s ps) then Some 0 else owned_len s (p ∷ ps))

abbrev pub leave_on : Place → Placed → Option ℕ → (Place → ℕ → List Placed) → List Placed
leave_on at p None go = p ∷ go (place_after p.lexeme at) 0
leave_on at p (Some k) go = go at k

-- the rest of a line at a place, of which k more tokens are left out; its end stays
abbrev pub kept : Scope → Place → ℕ → List Placed → List Placed
kept s at k [] = []
kept s at k (p ∷ []) = p ∷ []
kept s at (suc k) (p ∷ q ∷ ps) = kept s at k (q ∷ ps)
kept s at zero (p ∷ q ∷ ps) = leave_on at p (leaves s at (p ∷ q ∷ ps)) (λ at k. kept s at k (q ∷ ps))

-- behind the words pragma omp target
abbrev pub owned_tokens : Names → List Placed → List Placed
owned_tokens xs (p ∷ o ∷ t ∷ ps) = p ∷ o ∷ t ∷ kept (scope xs) at_begin 0 ps
owned_tokens xs ps = ps

-- ---- lines that lack one

-- whether the name stands in a clause private, in so many brackets, of which the first are those of such a clause or not
abbrev pub is_private : List ℕ → ℕ → Bool → List Lexeme → Bool
is_private x d private [] = false
is_private x d private (t ∷ ts) =
    if opens_list t then is_private x (d + 1) private ts
    else (if closes_list t then is_private x (d - 1) private ts
    else (if d == 0 then is_private x 0 (is_word (codes "private") t) ts
    else (if private && is_word x t then true else is_private x d private ts)))

-- the statement that begins there assigns the name before all else
abbrev pub sets : List ℕ → Before → ℕ → Items → Bool
sets x b d [] = false
sets x b d (i ∷ is) =
    if same (Name x) i.terminal then begins b && is_fresh x is
    else uses_on d i is (λ d. sets x (behind x b i) d is)

-- one of the names is shared by all turns, each of which sets it
abbrev pub shares : Names → List Lexeme → Items → Bool
shares [] ts is = false
shares (x ∷ xs) ts is = (sets x Starts 0 is && not (is_private x 0 false ts)) || shares xs ts is

abbrev pub noted_line : Names → Item Terminal → List Lexeme → Items → Item Terminal
noted_line xs i ts is =
    if is_omp ts && is_combined ts && shares xs ts is
    then with_tokens i ts (before_end (no_clause (target_column (placed_of ts i.columns))) (placed_of ts i.columns)) else i

abbrev pub noted_item : Names → Item Terminal → Terminal → Items → Item Terminal
noted_item xs i (Line ts) is = noted_line xs i ts is
noted_item xs i t is = i

-- all tokens, with such a clause on the line of each combined construct that lacks one
abbrev pub noted : Names → Items → Items
noted xs [] = []
noted xs (i ∷ is) = noted_item xs i i.terminal (bare is) ∷ noted xs is

-- ---- all tokens

abbrev pub owned_line : Item Terminal → List Lexeme → Items → Item Terminal
owned_line i ts is =
    if is_omp ts && is_target ts then with_tokens i ts (owned_tokens (declared [] 0 is) (placed_of ts i.columns)) else i

abbrev pub owned_item : Item Terminal → Terminal → Items → Item Terminal
owned_item i (Line ts) is = owned_line i ts is
owned_item i t is = i

-- all tokens, without these clauses
abbrev pub owned_lines : Items → Items
owned_lines [] = []
owned_lines (i ∷ is) = owned_item i i.terminal (bare is) ∷ owned_lines is

abbrev pub owned_by : Names → Items → Items
owned_by xs is = owned_lines (all_moved xs (noted xs is))

-- all tokens, with scalars declared where they are first assigned, and without clauses private of what a region declares
abbrev pub owned : Items → Items
owned is = owned_by (moved_names (bare is)) is
