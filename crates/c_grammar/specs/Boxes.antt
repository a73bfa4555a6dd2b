-- Boxed scalars: a scalar of main that stands in a clause is the one cell of an array. Such a name has a section of one cell
-- in clauses, a target that uses it and does not name it maps it to the device, and a line before main names all of them.
use Rattle.std.specs.Prelude.{ℕ, ◌==◌, Bool, true, false, not, ◌&&◌, ◌||◌, if◌then◌else◌, List, [], ◌∷◌, ◌++◌, map, Some, codes}
use Rattle.c_tokens.specs.declared.kind.Sign.TheVariants as sign
use Rattle.c_grammar.specs.Lexeme.{Lexeme, Signed, Worded, Numbered, Ended, Placed, Uint64}
use Rattle.c_grammar.specs.Terminal.{Terminal, Fixed, Name, Line, same}
use Rattle.c_grammar.specs.Texts.{Item}
use Rattle.c_grammar.specs.Allocations.{begins_main}
use Rattle.c_grammar.specs.Blocks.{Items, bare, is_directive}
use Rattle.c_grammar.specs.Constants.{Names, depth_behind, is_among, is_mark, with_tokens}
use Rattle.c_grammar.specs.Expressions.{placed_of}
use Rattle.c_grammar.specs.Functions.{Spot, line_begins, spot_behind}
use Rattle.c_grammar.specs.LineForms.{all_at, is_sign}
use Rattle.c_grammar.specs.LineRules.{is_among as is_one}
use Rattle.c_grammar.specs.Lines.{boxing_word, is_omp}
use Rattle.c_grammar.specs.Presence.{before_end, is_target, is_word, opens_list, target_column, uses}

-- ---- the names in clauses

-- a clause with a list of what is mapped, copied, ordered or summed up
abbrev pub lists : Lexeme → Bool
lists t =
    is_word (codes "map") t || is_word (codes "to") t || is_word (codes "from") t || is_word (codes "depend") t ||
    is_word (codes "reduction") t

-- where a token of a line stands, and whether behind the word of such a clause
pub record Listing : Type 0 where
  pub spot : Spot
  pub lists : Bool

abbrev pub at_begin : Listing
at_begin = record { spot = line_begins; lists = false }

abbrev pub behind : Listing → Lexeme → List Lexeme → Listing
behind s t ts = record {
  spot = spot_behind s.spot t ts;
  lists = if (s.spot.depth == 0) && not (opens_list t) then lists t else s.lists;
}

-- a name in the list of such a clause
abbrev pub is_item : Listing → Bool
is_item s = s.lists && s.spot.names && (s.spot.depth == 1)

abbrev pub with_item : Bool → Lexeme → Names → Names
with_item true (Worded x) xs = if is_among xs x then xs else xs ++ x ∷ []
with_item b t xs = xs

-- the names in the lists of these clauses, with these others
abbrev pub listed : Listing → List Lexeme → Names → Names
listed s [] xs = xs
listed s (t ∷ ts) xs = listed (behind s t ts) ts (with_item (is_item s) t xs)

abbrev pub listed_on : Terminal → Names → Names
listed_on (Line ts) xs = if is_omp ts then listed at_begin ts xs else xs
listed_on t xs = xs

abbrev pub all_listed : Items → Names → Names
all_listed [] xs = xs
all_listed (i ∷ is) xs = all_listed is (listed_on i.terminal xs)

-- ---- the scalars of main

-- in so many blocks, behind a bracket or not: a scalar is declared by these tokens
pub data Declared : Type 0 where
  NoName : Declared
  -- one of main, which may be boxed; any other
  Local Other : (name : List ℕ) → Declared

abbrev pub ends_name : Items → Bool
ends_name [] = false
ends_name (s ∷ is) = is_mark sign.Equal s || is_mark sign.Semicolon s

abbrev pub declared_name : Bool → Terminal → Items → Declared
declared_name may (Name x) is = if may && ends_name is then Local x else Other x
declared_name may t is = NoName

abbrev pub declared_at : ℕ → Bool → Item Terminal → Items → Declared
declared_at depth bracket t [] = NoName
declared_at depth bracket t (x ∷ is) =
    if same (Fixed Uint64) t.terminal then declared_name (not (depth == 0) && not bracket) x.terminal is else NoName

-- the scalars that main declares, and the other names that are declared
pub record Found : Type 0 where
  pub locals : Names
  pub others : Names

abbrev pub with_declared : Declared → Found → Found
with_declared NoName f = f
with_declared (Local x) f = record { locals = x ∷ f.locals; others = f.others }
with_declared (Other x) f = record { locals = f.locals; others = x ∷ f.others }

abbrev pub nothing_found : Found
nothing_found = record { locals = []; others = [] }

abbrev pub found : ℕ → Bool → Found → Items → Found
found depth bracket f [] = f
found depth bracket f (i ∷ is) =
    found (depth_behind i.terminal depth) (is_mark sign.OpenParen i) (with_declared (declared_at depth bracket i is) f) is

abbrev pub only : Found → Names → Names
only f [] = []
only f (x ∷ xs) = if is_one f.locals x && not (is_one f.others x) then x ∷ only f xs else only f xs

-- the scalars that are boxed: of main alone, and in a clause
abbrev pub boxes_of : Items → Names
boxes_of is = only (found 0 false nothing_found (bare is)) (all_listed is [])

-- ---- their sections

-- [0:1] at a column
abbrev pub section : ℕ → List Placed
section column =
    all_at column (Signed sign.OpenBracket ∷ Numbered (Some 0) ∷ Signed sign.Colon ∷ Numbered (Some 1) ∷
    Signed sign.CloseBracket ∷ [])

abbrev pub begins_bounds : List Placed → Bool
begins_bounds [] = false
begins_bounds (p ∷ ps) = is_sign sign.OpenBracket p.lexeme

abbrev pub is_box : Names → Lexeme → Bool
is_box names (Worded x) = is_among names x
is_box names t = false

abbrev pub lexemes : List Placed → List Lexeme
lexemes ps = map (λ p. p.lexeme) ps

abbrev pub sectioned : Names → Listing → List Placed → List Placed
sectioned names s [] = []
sectioned names s (p ∷ ps) =
    p ∷ ((if is_item s && is_box names p.lexeme && not (begins_bounds ps) then section p.column else []) ++
    sectioned names (behind s p.lexeme (lexemes ps)) ps)

-- ---- what a target uses

-- map(to: x[0:1])
abbrev pub to_clause : ℕ → List ℕ → List Placed
to_clause column x =
    all_at column (Worded (codes "map") ∷ Signed sign.OpenParen ∷ Worded (codes "to") ∷ Signed sign.Colon ∷ Worded x ∷ []) ++
    (section column ++ all_at column (Signed sign.CloseParen ∷ []))

-- for those that the region uses and the line does not list
abbrev pub to_clauses : Names → ℕ → Names → Items → List Placed
to_clauses [] column listed is = []
to_clauses (x ∷ xs) column listed is =
    (if uses x 0 is && not (is_among listed x) then to_clause column x else []) ++ to_clauses xs column listed is

abbrev pub clauses_for : Names → List Lexeme → Items → List Placed → List Placed
clauses_for names ts is ps =
    if is_target ts then to_clauses names (target_column ps) (listed at_begin ts []) is else []

abbrev pub boxed_tokens : Names → List Lexeme → Items → List Placed → List Placed
boxed_tokens names ts is ps = before_end (clauses_for names ts is ps) (sectioned names at_begin ps)

abbrev pub boxed_item : Names → Item Terminal → Terminal → Items → Item Terminal
boxed_item names i (Line ts) is =
    if is_omp ts then with_tokens i ts (boxed_tokens names ts is (placed_of ts i.columns)) else i
boxed_item names i t is = i

abbrev pub boxed_lines : Names → Items → Items
boxed_lines names [] = []
boxed_lines names (i ∷ is) = boxed_item names i i.terminal (bare is) ∷ boxed_lines names is

-- all tokens, with the sections and clauses of boxed scalars
abbrev pub boxed : Items → Items
boxed is = boxed_lines (boxes_of is) is

-- ---- the line before main

abbrev pub boxing_lexemes : Names → List Lexeme
boxing_lexemes names =
    Worded (codes "pragma") ∷ Worded (codes "omp") ∷ boxing_word ∷ (map Worded names ++ Ended ∷ [])

abbrev pub boxing_at : Item Terminal → Names → Item Terminal
boxing_at i names = record {
  terminal = Line (boxing_lexemes names);
  line = i.line;
  column = i.column;
  columns = map (λ t. i.column) (boxing_lexemes names);
}

abbrev pub named_before : Names → Items → Items
named_before [] is = is
named_before (x ∷ xs) [] = []
named_before (x ∷ xs) (i ∷ is) = boxing_at i (x ∷ xs) ∷ i ∷ is

-- the tokens with that line before the first that begin main
abbrev pub before_main : Names → Items → Items
before_main names [] = []
before_main names (i ∷ is) =
    if begins_main i (bare is) && not (is_directive i.terminal) then named_before names (i ∷ is)
    else i ∷ before_main names is

-- all tokens, with the line that names the boxed scalars
abbrev pub announced : Items → Items
announced is = before_main (boxes_of is) is
