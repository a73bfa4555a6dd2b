-- Statements with what C lets be left out: the braces round a body of one statement, and the type of a further name in a
-- declaration. They are put in before the grammar is asked, so that it sees a block and a type wherever they are missing.
use Rattle.std.specs.Prelude.{ℕ, zero, suc, ◌+◌, ◌-◌, Bool, true, false, not, ◌&&◌, ◌||◌, ◌==◌, nat_le, if◌then◌else◌, List, [], ◌∷◌, ◌++◌, codes}
use Rattle.c_tokens.specs.declared.kind.Sign.TheVariants as sign
use Rattle.c_grammar.specs.Lexeme.{Uint64, For, If, Else, Print}
use Rattle.c_grammar.specs.Terminal.{Terminal, Fixed, Mark, Name, Line, same}
use Rattle.c_grammar.specs.Lines.{is_atomic, is_omp}
use Rattle.c_grammar.specs.Texts.{Item}

abbrev pub Items : Type 0
Items = List (Item Terminal)

-- ---- directive lines, which are seen through

abbrev pub is_directive : Terminal → Bool
is_directive (Line ts) = is_omp ts
is_directive _ = false

-- the tokens without directive lines
abbrev pub bare : Items → Items
bare [] = []
bare (i ∷ is) = if is_directive i.terminal then bare is else i ∷ bare is

-- ---- types

abbrev pub is_long : Item Terminal → Bool
is_long i = same (Name (codes "long")) i.terminal

-- how many more words a type has that begins with unsigned: long, or long long
abbrev pub longs : Items → ℕ
longs [] = 0
longs (i ∷ []) = if is_long i then 1 else 0
longs (i ∷ j ∷ is) = if is_long i then (if is_long j then 2 else 1) else 0

abbrev pub at : Item Terminal → Terminal → Item Terminal
at i t = record { terminal = t; line = i.line; column = i.column; columns = [] }

abbrev pub type_at : Item Terminal → ℕ → (ℕ → Items) → Items
type_at i zero go = i ∷ go 0
type_at i (suc n) go =
    if same (Name (codes "unsigned")) i.terminal then at i (Fixed Uint64) ∷ go (suc n) else i ∷ go 0

abbrev pub type_on : ℕ → Item Terminal → ℕ → (ℕ → Items) → Items
type_on (suc k) i n go = go k
type_on zero i n go = type_at i n go

-- unsigned long and unsigned long long are uint64_t
unfoldable pub typed : ℕ → Items → Items
typed k [] = []
typed k (i ∷ is) = if is_directive i.terminal then i ∷ typed k is else type_on k i (longs (bare is)) (λ k. typed k is)

-- ---- blocks and declarations

-- what is open: the head of a loop, or of an if, with so many brackets; a block; the first branch of an if; braces that were
-- put in round a statement
pub data Open : Type 0 where
  Head : (choice : Bool) (brackets : ℕ) → Open
  Block First Around : Open

-- what has been read: what is open, the innermost first; whether a body comes now; whether a declaration is read, with so
-- many brackets open, and the last token is the word const
pub record Reading : Type 0 where
  pub levels : List Open
  pub body : Bool
  pub declares : Bool
  pub brackets : ℕ
  pub constant : Bool

abbrev pub nothing_read : Reading
nothing_read = record { levels = []; body = false; declares = false; brackets = 0; constant = false }

abbrev pub with_open : List Open → Bool → Reading → Reading
with_open os body r =
    record { levels = os; body = body; declares = r.declares; brackets = r.brackets; constant = r.constant }

-- a token by which a statement begins that may be a body without braces: no declaration, directive or block
abbrev pub begins_body : Terminal → Bool
begins_body (Name x) = true
begins_body t =
    same (Fixed For) t || same (Fixed If) t || same (Fixed Print) t || same (Mark sign.PlusPlus) t ||
    same (Mark sign.MinusMinus) t

abbrev pub is_else : Items → Bool
is_else [] = false
is_else (i ∷ is) = same (Fixed Else) i.terminal

-- a name, and not the word sizeof
abbrev pub is_name : Items → Bool
is_name [] = false
is_name (i ∷ is) = begins_name i.terminal && not (same (Name (codes "sizeof")) i.terminal)
  where
    begins_name : Terminal → Bool
    begins_name (Name x) = true
    begins_name _ = false

-- how many braces end with a statement, and what is open behind them: an if goes on where the word else follows
pub record Ends : Type 0 where
  pub braces : ℕ
  pub levels : List Open

abbrev pub one_more : Ends → Ends
one_more e = record { braces = e.braces + 1; levels = e.levels }

abbrev pub ends : Bool → List Open → Ends
ends other [] = record { braces = 0; levels = [] }
ends other (Around ∷ os) = one_more (ends other os)
ends other (First ∷ os) = if other then record { braces = 0; levels = First ∷ os } else ends other os
ends other (Block ∷ os) = record { braces = 0; levels = Block ∷ os }
ends other (Head c n ∷ os) = record { braces = 0; levels = Head c n ∷ os }

abbrev pub without_block : List Open → List Open
without_block [] = []
without_block (Block ∷ os) = os
without_block (o ∷ os) = without_block os

-- behind the last bracket of a head comes a body
abbrev pub head_closed : Bool → ℕ → List Open → Reading → Reading
head_closed choice n os r =
    if nat_le n 1 then with_open (if choice then First ∷ os else os) true r else with_open (Head choice (n - 1) ∷ os) false r

abbrev pub in_head : Bool → ℕ → List Open → Terminal → Reading → Reading
in_head choice n os t r =
    if same (Mark sign.OpenParen) t then with_open (Head choice (n + 1) ∷ os) false r
    else (if same (Mark sign.CloseParen) t then head_closed choice n os r else with_open (Head choice n ∷ os) false r)

-- the word else behind a first branch
abbrev pub otherwise : List Open → Reading → Reading
otherwise (First ∷ os) r = with_open os true r
otherwise os r = with_open os false r

-- a token outside of heads opens what it opens
abbrev pub opened : List Open → Terminal → Reading → Reading
opened os t r =
    if same (Fixed For) t then with_open (Head false 0 ∷ os) false r
    else (if same (Fixed If) t then with_open (Head true 0 ∷ os) false r
    else (if same (Mark sign.OpenBrace) t then with_open (Block ∷ os) false r
    else (if same (Fixed Else) t then otherwise os r else with_open os false r)))

abbrev pub read_in : List Open → Terminal → Reading → Reading
read_in (Head choice n ∷ os) t r = in_head choice n os t r
read_in os t r = opened os t r

-- it ends a statement
abbrev pub is_end : List Open → Terminal → Bool
is_end (Head choice n ∷ os) t = false
is_end os t = same (Mark sign.Semicolon) t || same (Mark sign.CloseBrace) t

abbrev pub left : List Open → Terminal → List Open
left os t = if same (Mark sign.CloseBrace) t then without_block os else os

-- a type outside of heads begins a declaration, up to the end of the statement
abbrev pub is_type : Terminal → Bool
is_type t = same (Fixed Uint64) t

abbrev pub is_headless : List Open → Bool
is_headless (Head choice n ∷ os) = false
is_headless os = true

abbrev pub is_break : Terminal → Bool
is_break t = same (Mark sign.Semicolon) t || same (Mark sign.OpenBrace) t || same (Mark sign.CloseBrace) t

abbrev pub brackets_behind : Terminal → ℕ → ℕ
brackets_behind t n =
    if is_break t then 0
    else (if same (Mark sign.OpenParen) t then n + 1 else (if same (Mark sign.CloseParen) t then n - 1 else n))

abbrev pub noted : Terminal → Reading → Reading
noted t r = record {
  levels = r.levels;
  body = r.body;
  declares = not (is_break t) && (r.declares || (is_type t && is_headless r.levels && not r.constant));
  brackets = brackets_behind t r.brackets;
  constant = same (Name (codes "const")) t;
}

abbrev pub braces_at : ℕ → Item Terminal → Items
braces_at zero i = []
braces_at (suc n) i = at i (Mark sign.CloseBrace) ∷ braces_at n i

abbrev pub closed : Ends → Item Terminal → Reading → (Reading → Items) → Items
closed e i r go = i ∷ (braces_at e.braces i ++ go (with_open e.levels false r))

-- the token where no body comes
abbrev pub plain : Item Terminal → Bool → Reading → (Reading → Items) → Items
plain i other r go =
    if is_end r.levels i.terminal then closed (ends other (left r.levels i.terminal)) i (noted i.terminal r) go
    else i ∷ go (read_in r.levels i.terminal (noted i.terminal r))

-- a comma between two names of a declaration ends one and begins the next
abbrev pub parted : Item Terminal → Items → Reading → (Reading → Items) → Items
parted i is r go =
    if r.declares && (r.brackets == 0) && same (Mark sign.Comma) i.terminal && is_name is
    then at i (Mark sign.Semicolon) ∷ at i (Fixed Uint64) ∷ go r else plain i (is_else is) r go

abbrev pub in_block : Item Terminal → Items → Reading → (Reading → Items) → Items
in_block i is r go =
    if r.body && begins_body i.terminal
    then at i (Mark sign.OpenBrace) ∷ plain i (is_else is) (with_open (Around ∷ r.levels) false r) go
    else parted i is (with_open r.levels false r) go

-- a line that says of the update behind it that it is atomic
abbrev pub is_atomic_line : Terminal → Bool
is_atomic_line (Line ts) = is_atomic ts
is_atomic_line t = false

abbrev pub begins_update : Terminal → Bool
begins_update (Name x) = true
begins_update t = false

-- a directive line: where it belongs to a body of one statement, the brace stands before it
abbrev pub line_in_block : Item Terminal → Items → Reading → (Reading → Items) → Items
line_in_block i [] r go = i ∷ go r
line_in_block i (j ∷ js) r go =
    if r.body && is_atomic_line i.terminal && begins_update j.terminal
    then at j (Mark sign.OpenBrace) ∷ i ∷ go (with_open (Around ∷ r.levels) false r) else i ∷ go r

-- the tokens with their braces and types
unfoldable pub in_blocks : Reading → Items → Items
in_blocks r [] = []
in_blocks r (i ∷ is) =
    if is_directive i.terminal then line_in_block i (bare is) r (λ r. in_blocks r is)
    else in_block i (bare is) r (λ r. in_blocks r is)
