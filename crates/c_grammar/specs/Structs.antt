-- Structs whose members are all uint64_t. An array of them is an array of two dimensions, with a cell in its row for each
-- member; the definitions are left out. Where two declarations of a name differ, or a struct is defined twice, none are read.
use Rattle.std.specs.Prelude.{ℕ, zero, suc, ◌+◌, ◌-◌, ◌==◌, nat_lt, Bool, true, false, not, ◌&&◌, ◌||◌, if◌then◌else◌, List, [], ◌∷◌, ◌++◌, Option, Some, None, is_some, codes}
use Rattle.std.specs.Str.{bytes_eq}
use Rattle.c_tokens.specs.declared.kind.Sign.TheVariants as sign
use Rattle.c_grammar.specs.Lexeme.{Uint64}
use Rattle.c_grammar.specs.Terminal.{Terminal, Fixed, Mark, Name, Num, Unknown, same}
use Rattle.c_grammar.specs.Texts.{Item}
use Rattle.c_grammar.specs.Blocks.{Items, at, bare, is_directive}
use Rattle.c_grammar.specs.Allocations.{depth_behind, is_boundary}
use Rattle.c_grammar.specs.Constants.{is_mark, is_name}
use Rattle.c_grammar.specs.FunctionHeads.{is_qualifier}

abbrev pub struct_word : Terminal
struct_word = Name (codes "struct")

abbrev pub is_struct_word : Item Terminal → Bool
is_struct_word i = same struct_word i.terminal

abbrev pub typedef_word : Terminal
typedef_word = Name (codes "typedef")

-- ---- definitions

-- in the brackets of a definition: a member's type, its name, or what is behind that
pub data Spot : Type 0 where
  OnType OnName Behind : Spot

abbrev pub spot_behind : Spot → Terminal → Option Spot
spot_behind OnType t = if same (Fixed Uint64) t then Some OnName else None
spot_behind OnName t = if is_name t then Some Behind else None
spot_behind Behind t =
    if same (Mark sign.Comma) t then Some OnName else (if same (Mark sign.Semicolon) t then Some OnType else None)

-- the bracket that closes a definition, behind so many tokens
abbrev pub closes : Spot → ℕ → Terminal → Bool
closes OnType n t = nat_lt 0 n && same (Mark sign.CloseBrace) t
closes s n t = false

-- what is in the brackets, with the one that closes: how many tokens, and what follows
pub record Body : Type 0 where
  pub len : ℕ
  pub rest : Items

abbrev pub body_on : Option Spot → (Spot → Option Body) → Option Body
body_on None go = None
body_on (Some s) go = go s

abbrev pub body : Spot → ℕ → Items → Option Body
body s n [] = None
body s n (i ∷ is) =
    if closes s n i.terminal then Some (record { len = n + 1; rest = is })
    else body_on (spot_behind s i.terminal) (λ s. body s (n + 1) is)

-- a struct is known by the name behind the word struct, or by one of its own. Its members are the first names of these tokens,
-- up to a bracket
pub record Struct : Type 0 where
  pub tagged : Bool
  pub name : List ℕ
  pub members : Items

abbrev pub both_or_none : Bool → Bool → Bool
both_or_none true b = b
both_or_none false b = not b

abbrev pub is_struct : Bool → List ℕ → Struct → Bool
is_struct tagged x s = both_or_none s.tagged tagged && bytes_eq s.name x

abbrev pub struct_of : List Struct → Bool → List ℕ → Option Struct
struct_of [] tagged x = None
struct_of (s ∷ ss) tagged x = if is_struct tagged x s then Some s else struct_of ss tagged x

-- a definition, by one or both of these names, and how many tokens it has behind its first
pub record Definition : Type 0 where
  pub tag : Option (List ℕ)
  pub own : Option (List ℕ)
  pub members : Items
  pub len : ℕ

abbrev pub definition : Option (List ℕ) → Option (List ℕ) → Items → ℕ → Option Definition
definition tag own ms n = Some (record { tag = tag; own = own; members = ms; len = n })

abbrev pub own_name : Option (List ℕ) → Items → ℕ → Terminal → Option Definition
own_name tag ms n (Name x) = definition tag (Some x) ms n
own_name tag ms n t = None

-- NAME ; behind the brackets
abbrev pub with_own : Option (List ℕ) → Items → ℕ → Items → Option Definition
with_own tag ms n (x ∷ e ∷ is) = if is_mark sign.Semicolon e then own_name tag ms (n + 2) x.terminal else None
with_own tag ms n is = None

-- ; behind the brackets
abbrev pub without_own : Option (List ℕ) → Items → ℕ → Items → Option Definition
without_own tag ms n [] = None
without_own tag ms n (e ∷ is) = if is_mark sign.Semicolon e then definition tag None ms (n + 1) else None

abbrev pub with_body : Bool → Option (List ℕ) → ℕ → Items → Option Body → Option Definition
with_body owns tag n ms None = None
with_body owns tag n ms (Some b) =
    if owns then with_own tag ms (n + b.len) b.rest else without_own tag ms (n + b.len) b.rest

-- behind the word struct and a name, if it has one; n tokens stand between the first and here
abbrev pub braced : Bool → Option (List ℕ) → ℕ → Items → Option Definition
braced owns tag n [] = None
braced owns tag n (b ∷ is) =
    if is_mark sign.OpenBrace b then with_body owns tag (n + 1) is (body OnType 0 is) else None

abbrev pub begins_name : Items → Bool
begins_name [] = false
begins_name (i ∷ is) = is_name i.terminal

-- one more name of a struct
abbrev pub renamed : ℕ → Items → Option Struct → Option Definition
renamed n is None = None
renamed n is (Some s) = with_own None s.members n is

abbrev pub with_tag : List Struct → Bool → ℕ → List ℕ → Items → Option Definition
with_tag ss owns n x is =
    if owns && begins_name is then renamed n is (struct_of ss true x) else braced owns (Some x) n is

abbrev pub named : List Struct → Bool → ℕ → Terminal → Item Terminal → Items → Option Definition
named ss owns n (Name x) i is = with_tag ss owns (n + 1) x is
named ss owns n t i is = if owns then braced true None n (i ∷ is) else None

-- behind the word struct
abbrev pub structured : List Struct → Bool → ℕ → Items → Option Definition
structured ss owns n [] = None
structured ss owns n (i ∷ is) = named ss owns n i.terminal i is

-- behind the word typedef
abbrev pub behind_typedef : List Struct → Items → Option Definition
behind_typedef ss [] = None
behind_typedef ss (s ∷ is) = if is_struct_word s then structured ss true 1 is else None

-- what a token defines, where these structs are known
abbrev pub definition_at : List Struct → Item Terminal → Items → Option Definition
definition_at ss i is =
    if is_struct_word i then structured ss false 0 is
    else (if same typedef_word i.terminal then behind_typedef ss is else None)

-- ---- members

-- which member has that name
abbrev pub number_in : ℕ → Items → List ℕ → Option ℕ
number_in n [] x = None
number_in n (i ∷ is) x =
    if is_mark sign.CloseBrace i then None
    else (if same (Name x) i.terminal then Some n
    else number_in (if is_name i.terminal then n + 1 else n) is x)

abbrev pub number_of : Items → Terminal → Option ℕ
number_of ms (Name x) = number_in 0 ms x
number_of ms t = None

-- how many members there are
abbrev pub count_in : ℕ → Items → ℕ
count_in n [] = n
count_in n (i ∷ is) =
    if is_mark sign.CloseBrace i then n else count_in (if is_name i.terminal then n + 1 else n) is

abbrev pub count : Items → ℕ
count ms = count_in 0 ms

-- ---- what is declared

-- a name that is one struct, or many: an array of them, or the parameter that stands for one
pub record Holder : Type 0 where
  pub name : List ℕ
  pub many : Bool
  pub struct : Struct

-- what has been read; it is spoiled where two of these do not agree
pub record Found : Type 0 where
  pub structs : List Struct
  pub holders : List Holder
  pub spoiled : Bool

abbrev pub nothing_found : Found
nothing_found = record { structs = []; holders = []; spoiled = false }

abbrev pub holder_of : List Holder → List ℕ → Option Holder
holder_of [] x = None
holder_of (h ∷ hs) x = if bytes_eq h.name x then Some h else holder_of hs x

abbrev pub spoil : Found → Found
spoil f = record { structs = f.structs; holders = f.holders; spoiled = true }

abbrev pub with_struct : Bool → List ℕ → Items → Found → Found
with_struct tagged x ms f =
    if is_some (struct_of f.structs tagged x) then spoil f
    else record {
      structs = f.structs ++ record { tagged = tagged; name = x; members = ms } ∷ [];
      holders = f.holders;
      spoiled = f.spoiled;
    }

abbrev pub with_name : Bool → Option (List ℕ) → Items → Found → Found
with_name tagged None ms f = f
with_name tagged (Some x) ms f = with_struct tagged x ms f

abbrev pub with_definition : Option Definition → Found → Found
with_definition None f = f
with_definition (Some d) f = with_name false d.own d.members (with_name true d.tag d.members f)

-- ---- declarations of names

-- a type, so many tokens behind its first, and what follows
pub record Use : Type 0 where
  pub struct : Struct
  pub len : ℕ
  pub rest : Items

abbrev pub use_of : Option Struct → ℕ → Items → Option Use
use_of None n is = None
use_of (Some s) n is = Some (record { struct = s; len = n; rest = is })

abbrev pub struct_at : List Struct → Bool → Terminal → Option Struct
struct_at ss tagged (Name x) = struct_of ss tagged x
struct_at ss tagged t = None

abbrev pub tagged_use : List Struct → Items → Option Use
tagged_use ss [] = None
tagged_use ss (x ∷ is) = use_of (struct_at ss true x.terminal) 1 is

abbrev pub use_at : List Struct → Item Terminal → Items → Option Use
use_at ss i is =
    if is_struct_word i then tagged_use ss is else use_of (struct_at ss false i.terminal) 0 is

-- one struct; an array, before the bracket; a pointer
pub data Form : Type 0 where
  One Array Pointer : Form

-- a name, and how many tokens there are between the first and it
pub record Declared : Type 0 where
  pub form : Form
  pub holder : Holder
  pub len : ℕ

abbrev pub is_many : Form → Bool
is_many One = false
is_many Array = true
is_many Pointer = true

abbrev pub declared_by : Terminal → Form → Struct → ℕ → Option Declared
declared_by (Name x) form s n =
    Some (record { form = form; holder = record { name = x; many = is_many form; struct = s }; len = n })
declared_by t form s n = None

-- a declaration ends, outside of all brackets or in some
abbrev pub ends : ℕ → Item Terminal → Bool
ends zero i = is_mark sign.Semicolon i
ends (suc d) i = is_mark sign.Comma i || is_mark sign.CloseParen i

abbrev pub ends_first : ℕ → Items → Bool
ends_first d [] = false
ends_first d (i ∷ is) = ends d i

-- behind a bracket: a length, the bracket that closes it, and the end
abbrev pub ends_length : ℕ → Items → Bool
ends_length d [] = false
ends_length d (i ∷ is) =
    if is_mark sign.CloseBracket i then ends_first d is
    else (if is_boundary i.terminal || is_mark sign.OpenBracket i then false else ends_length d is)

abbrev pub is_zero : ℕ → Bool
is_zero d = d == 0

-- behind a name
abbrev pub variable_on : ℕ → Use → Item Terminal → Item Terminal → Items → Option Declared
variable_on d u x e is =
    if is_mark sign.OpenBracket e
    then (if ends_length d is then declared_by x.terminal Array u.struct u.len else None)
    else (if is_zero d && ends d e then declared_by x.terminal One u.struct u.len else None)

abbrev pub variable : ℕ → Use → Item Terminal → Items → Option Declared
variable d u x [] = None
variable d u x (e ∷ is) = variable_on d u x e is

-- behind a star, and a word that says nothing here
abbrev pub pointer_on : ℕ → Use → ℕ → Items → Option Declared
pointer_on d u n (x ∷ e ∷ is) =
    if not (is_zero d) && ends d e then declared_by x.terminal Pointer u.struct (u.len + n) else None
pointer_on d u n is = None

abbrev pub pointer : ℕ → Use → Items → Option Declared
pointer d u [] = None
pointer d u (x ∷ is) = if is_qualifier x.terminal then pointer_on d u 2 is else pointer_on d u 1 (x ∷ is)

abbrev pub declared_behind : ℕ → Use → Items → Option Declared
declared_behind d u [] = None
declared_behind d u (s ∷ is) = if is_mark sign.Star s then pointer d u is else variable d u s is

abbrev pub declared_with : ℕ → Option Use → Option Declared
declared_with d None = None
declared_with d (Some u) = declared_behind d u u.rest

-- with so many brackets open
abbrev pub declared : ℕ → List Struct → Item Terminal → Items → Option Declared
declared d ss i is = declared_with d (use_at ss i is)

-- ---- all that is declared

abbrev pub agree : Holder → Holder → Bool
agree g h = both_or_none g.many h.many && is_struct g.struct.tagged g.struct.name h.struct

abbrev pub hold : Option Holder → Holder → Found → Found
hold None h f = record { structs = f.structs; holders = f.holders ++ h ∷ []; spoiled = f.spoiled }
hold (Some g) h f = if agree g h then f else spoil f

abbrev pub with_declared : Option Declared → Found → Found
with_declared None f = f
with_declared (Some d) f = hold (holder_of f.holders d.holder.name) d.holder f

abbrev pub noted : ℕ → Item Terminal → Items → Found → Found
noted d i is f =
    let g : Found = if is_zero d then with_definition (definition_at f.structs i is) f else f in
    with_declared (declared d g.structs i is) g

abbrev pub found : ℕ → Found → Items → Found
found d f [] = f
found d f (i ∷ is) = found (depth_behind i.terminal d) (noted d i is f) is

abbrev pub agreed : Found → Found
agreed f = if f.spoiled then spoil nothing_found else f

-- ---- the tokens

-- what stands right before a token, by the members of a struct: the name of one, that of many, one of many, the name in the
-- declaration of an array, or the type in a declaration
pub data Before : Type 0 where
  Nothing : Before
  OfOne OfMany OfRow OfLength : (members : Items) → Before
  OfType : (form : Form) (members : Items) → Before

-- how many brackets are open; what stands before each [ that is open, the innermost first; what stands before the next token
pub record State : Type 0 where
  pub depth : ℕ
  pub indices : List Before
  pub before : Before

abbrev pub begin : State
begin = record { depth = 0; indices = []; before = Nothing }

abbrev pub held_by : Option Holder → Before
held_by None = Nothing
held_by (Some h) = if h.many then OfMany h.struct.members else OfOne h.struct.members

abbrev pub before_name : Found → Terminal → Before
before_name f (Name x) = held_by (holder_of f.holders x)
before_name f t = Nothing

abbrev pub innermost : List Before → Before
innermost [] = Nothing
innermost (b ∷ bs) = b

abbrev pub closed : List Before → List Before
closed [] = []
closed (b ∷ bs) = bs

abbrev pub behind_index : Before → Before
behind_index (OfMany ms) = OfRow ms
behind_index b = Nothing

abbrev pub indices_behind : Item Terminal → State → List Before
indices_behind i s =
    if is_mark sign.OpenBracket i then s.before ∷ s.indices
    else (if is_mark sign.CloseBracket i then closed s.indices else s.indices)

abbrev pub behind_other : Before → Before → Before
behind_other (OfType Array ms) b = OfLength ms
behind_other a b = b

abbrev pub before_behind : Found → Item Terminal → State → Before
before_behind f i s =
    if is_mark sign.CloseBracket i then behind_index (innermost s.indices)
    else behind_other s.before (before_name f i.terminal)

abbrev pub behind : Found → Item Terminal → State → State
behind f i s = record {
  depth = depth_behind i.terminal s.depth;
  indices = indices_behind i s;
  before = before_behind f i s;
}

abbrev pub index_at : Item Terminal → ℕ → Items
index_at i n = at i (Mark sign.OpenBracket) ∷ at i (Num (Some n)) ∷ at i (Mark sign.CloseBracket) ∷ []

-- what is written for a token, and for so many behind it, and what then stands before the next one
pub record Put : Type 0 where
  pub items : Items
  pub len : ℕ
  pub before : Before

abbrev pub put : Items → ℕ → Before → Option Put
put is n b = Some (record { items = is; len = n; before = b })

abbrev pub declared_put : Item Terminal → Option Declared → Option Put
declared_put i None = None
declared_put i (Some d) = put (at i (Fixed Uint64) ∷ []) d.len (OfType d.form d.holder.struct.members)

-- the member behind a sign, in that row, with so many tokens that are left out
abbrev pub member_put : Item Terminal → Items → ℕ → Option ℕ → Option Put
member_put i row n None = None
member_put i row n (Some m) = put (row ++ index_at i m) n Nothing

-- behind a dot
abbrev pub dot_put : Before → Item Terminal → Items → Option Put
dot_put (OfOne ms) i (x ∷ is) = member_put i (index_at i 0) 1 (number_of ms x.terminal)
dot_put (OfRow ms) i (x ∷ is) = member_put i [] 1 (number_of ms x.terminal)
dot_put b i is = None

-- behind a minus sign: > and a member
abbrev pub arrow_put : Before → Item Terminal → Items → Option Put
arrow_put (OfMany ms) i (g ∷ x ∷ is) =
    if is_mark sign.Greater g then member_put i (index_at i 0) 2 (number_of ms x.terminal) else None
arrow_put b i is = None

abbrev pub definition_put : Option Definition → Option Put
definition_put None = None
definition_put (Some d) = put [] d.len Nothing

abbrev pub name_put : Found → State → Item Terminal → Items → Option Put
name_put f s i is =
    if is_zero s.depth && not f.spoiled && is_some (definition_at f.structs i is)
    then definition_put (definition_at f.structs i is) else declared_put i (declared s.depth f.structs i is)

abbrev pub put_at : Found → State → Item Terminal → Items → Option Put
put_at f s i is =
    if is_mark sign.Dot i then dot_put s.before i is
    else (if is_mark sign.Minus i then arrow_put s.before i is else name_put f s i is)

-- behind the bracket that closes the length of an array: a row has a cell for each member
abbrev pub row_length : Before → Item Terminal → Items
row_length (OfLength ms) i = index_at i (count ms)
row_length b i = []

-- behind the name in the declaration of one struct, or of a parameter
abbrev pub lengths : Before → Item Terminal → Items
lengths (OfType One ms) i = index_at i 1 ++ index_at i (count ms)
lengths (OfType Pointer ms) i = at i (Mark sign.OpenBracket) ∷ at i (Mark sign.CloseBracket) ∷ index_at i (count ms)
lengths b i = []

abbrev pub put_behind : State → Item Terminal → Items
put_behind s i = if is_mark sign.CloseBracket i then row_length (innermost s.indices) i else lengths s.before i

abbrev pub Onward : Type 0
Onward = State → ℕ → Items

-- another dot is a byte that begins no token, behind which nothing is read
abbrev pub put_on : Found → State → Item Terminal → Option Put → Onward → Items
put_on f s i None go = if is_mark sign.Dot i then at i Unknown ∷ [] else i ∷ (put_behind s i ++ go (behind f i s) 0)
put_on f s i (Some p) go = p.items ++ go (record { depth = s.depth; indices = s.indices; before = p.before }) p.len

abbrev pub rows_on : Found → State → ℕ → Item Terminal → Items → Onward → Items
rows_on f s zero i is go = put_on f s i (put_at f s i is) go
rows_on f s (suc k) i is go = go s k

-- the tokens, of which k more are left out
abbrev pub rows_from : Found → State → ℕ → Items → Items
rows_from f s k [] = []
rows_from f s k (i ∷ is) =
    if is_directive i.terminal then i ∷ rows_from f s k is
    else rows_on f s k i (bare is) (λ s k. rows_from f s k is)

-- all tokens, with structs as rows of cells
abbrev pub in_rows : Items → Items
in_rows is = rows_from (agreed (found 0 nothing_found (bare is))) begin 0 is
