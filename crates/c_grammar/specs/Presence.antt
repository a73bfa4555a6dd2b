-- Arrays that are pointers in C, as parameters of functions and what main allocates: a target maps none of them by itself. On
-- the line of one that uses them, and names them in no map clause, a clause is put that says that they are present. Where one
-- stands in a clause depend without a section, it is the pointer that orders in C: such a line gets a clause that names
-- nothing, which is no clause of the grammar.
use Rattle.std.specs.Prelude.{ℕ, ◌+◌, ◌-◌, ◌==◌, Bool, true, false, not, ◌&&◌, ◌||◌, nat_le, if◌then◌else◌, List, [], ◌∷◌, ◌++◌, codes}
use Rattle.c_tokens.specs.declared.kind.Sign.TheVariants as sign
use Rattle.c_grammar.specs.Lexeme as lexeme
use Rattle.c_grammar.specs.Lexeme.{Lexeme, Signed, Worded, Else, Placed, Uint64}
use Rattle.c_grammar.specs.Terminal.{Terminal, Fixed, Name, Line, same}
use Rattle.c_grammar.specs.Texts.{Item}
use Rattle.c_grammar.specs.Blocks.{Items, bare}
use Rattle.c_grammar.specs.Changes.{is_mark}
use Rattle.c_grammar.specs.Constants.{Names, is_among, with_tokens}
use Rattle.c_grammar.specs.Expressions.{placed_of}
use Rattle.c_grammar.specs.LineForms.{is_sign, all_at}
use Rattle.c_grammar.specs.Lines.{is_omp}

abbrev pub is_word : List ℕ → Lexeme → Bool
is_word x t = lexeme.same (Worded x) t

-- behind the word target
abbrev pub is_other : Lexeme → Bool
is_other t =
    is_word (codes "data") t || is_word (codes "enter") t || is_word (codes "exit") t || is_word (codes "update") t

-- the line of a region that runs on a device
abbrev pub is_target : List Lexeme → Bool
is_target (p ∷ o ∷ t ∷ u ∷ ts) = is_word (codes "target") t && not (is_other u)
is_target ts = false

abbrev pub opens_list : Lexeme → Bool
opens_list t = is_sign sign.OpenParen t || is_sign sign.OpenBracket t

abbrev pub closes_list : Lexeme → Bool
closes_list t = is_sign sign.CloseParen t || is_sign sign.CloseBracket t

-- whether the name stands in a map clause, in so many brackets, of which the first are those of such a clause or not
abbrev pub is_mapped : List ℕ → ℕ → Bool → List Lexeme → Bool
is_mapped x d map [] = false
is_mapped x d map (t ∷ ts) =
    if opens_list t then is_mapped x (d + 1) map ts
    else (if closes_list t then is_mapped x (d - 1) map ts
    else (if d == 0 then is_mapped x 0 (is_word (codes "map") t) ts
    else (if map && is_word x t then true else is_mapped x d map ts)))

-- ---- the region

abbrev pub opens_part : Item Terminal → Bool
opens_part i = is_mark sign.OpenBrace i || is_mark sign.OpenParen i

abbrev pub is_else : Items → Bool
is_else [] = false
is_else (i ∷ is) = same (Fixed Else) i.terminal

-- the region goes on behind a brace that closes one of so many parts
abbrev pub goes_on : ℕ → Items → Bool
goes_on d is = not (nat_le d 1) || is_else is

abbrev pub uses_on : ℕ → Item Terminal → Items → (ℕ → Bool) → Bool
uses_on d i is go =
    if opens_part i then go (d + 1)
    else (if is_mark sign.CloseBrace i then (if goes_on d is then go (d - 1) else false)
    else (if is_mark sign.CloseParen i then go (d - 1)
    else (if is_mark sign.Semicolon i && (d == 0) then false else go d)))

abbrev pub is_declared : List ℕ → Item Terminal → Items → Bool
is_declared x t [] = false
is_declared x t (i ∷ is) = same (Fixed Uint64) t.terminal && same (Name x) i.terminal

-- whether the statement that begins there uses the name, before it declares it
abbrev pub uses : List ℕ → ℕ → Items → Bool
uses x d [] = false
uses x d (i ∷ is) =
    if is_declared x i is then false
    else (if same (Name x) i.terminal then true else uses_on d i is (λ d. uses x d is))

-- ---- the clauses

abbrev pub present_clause : ℕ → List ℕ → List Placed
present_clause column x =
    all_at column (Worded (codes "map") ∷ Signed sign.OpenParen ∷ Worded (codes "present") ∷ Signed sign.Comma ∷
    Worded (codes "alloc") ∷ Signed sign.Colon ∷ Worded x ∷ Signed sign.CloseParen ∷ [])

abbrev pub clauses_for : Names → ℕ → List Lexeme → Items → List Placed
clauses_for [] column ts is = []
clauses_for (x ∷ xs) column ts is =
    (if uses x 0 is && not (is_mapped x 0 false ts) then present_clause column x else []) ++ clauses_for xs column ts is

-- a clause that names nothing, which is no clause of the grammar
abbrev pub no_clause : ℕ → List Placed
no_clause column =
    all_at column (Worded (codes "private") ∷ Signed sign.OpenParen ∷ Signed sign.CloseParen ∷ [])

-- bounds stand next
abbrev pub begins_section : List Lexeme → Bool
begins_section [] = false
begins_section (t ∷ ts) = is_sign sign.OpenBracket t

-- one of these names, without a section
abbrev pub is_pointer : Names → Lexeme → List Lexeme → Bool
is_pointer names (Worded x) ts = is_among names x && not (begins_section ts)
is_pointer names t ts = false

-- the sign behind which a clause depend lists what it orders
abbrev pub begins_list : ℕ → Lexeme → Bool
begins_list d t = (d == 1) && is_sign sign.Colon t

-- whether such a name is listed in a clause depend, in so many brackets, of which the first are those of one or not; behind its
-- colon or not
abbrev pub orders : Names → ℕ → Bool → Bool → List Lexeme → Bool
orders names d depend listed [] = false
orders names d depend listed (t ∷ ts) =
    if opens_list t then orders names (d + 1) depend listed ts
    else (if closes_list t then orders names (d - 1) depend listed ts
    else (if d == 0 then orders names 0 (is_word (codes "depend") t) false ts
    else (if listed && ((d == 1) && is_pointer names t ts) then true
    else orders names d depend (listed || (depend && begins_list d t)) ts)))

abbrev pub map_clauses : Names → ℕ → List Lexeme → Items → List Placed
map_clauses names column ts is = if is_target ts then clauses_for names column ts is else []

-- what is put on a line
abbrev pub line_clauses : Names → ℕ → List Lexeme → Items → List Placed
line_clauses names column (p ∷ o ∷ t ∷ ts) is =
    map_clauses names column (p ∷ o ∷ t ∷ ts) is ++ (if orders names 0 false false ts then no_clause column else [])
line_clauses names column ts is = []

-- before the end of the line
abbrev pub before_end : List Placed → List Placed → List Placed
before_end new [] = []
before_end new (p ∷ []) = new ++ p ∷ []
before_end new (p ∷ q ∷ ps) = p ∷ before_end new (q ∷ ps)

-- the column of the word target
abbrev pub target_column : List Placed → ℕ
target_column (p ∷ o ∷ t ∷ ps) = t.column
target_column ps = 0

abbrev pub guarded_tokens : Names → List Lexeme → Items → List Placed → List Placed
guarded_tokens names ts is ps = before_end (line_clauses names (target_column ps) ts is) ps

abbrev pub guarded_item : Names → Item Terminal → Terminal → Items → Item Terminal
guarded_item names i (Line ts) is =
    if is_omp ts then with_tokens i ts (guarded_tokens names ts is (placed_of ts i.columns)) else i
guarded_item names i t is = i

-- all tokens, with the clauses for these arrays
abbrev pub guarded : Names → Items → Items
guarded names [] = []
guarded names (i ∷ is) = guarded_item names i i.terminal (bare is) ∷ guarded names is
