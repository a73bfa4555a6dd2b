-- Local arrays of literal length are written as scalars, one for each cell, as compilers do it (scalar replacement). A cell is
-- named by a subscript that is made of numbers. So that it is, a loop with numbers for bounds in whose body a
-- local array has a subscript with the loop's name in it is unrolled: its body stands once for each turn, with the number in
-- the place of the name. Directive lines are not asked.
use Rattle.std.specs.Prelude.{ℕ, zero, suc, ◌+◌, ◌-◌, ◌*◌, ◌==◌, nat_le, nat_lt, Bool, true, false, not, ◌&&◌, ◌||◌, if◌then◌else◌, List, [], ◌∷◌, ◌++◌, length, map, take, drop, Option, Some, None, codes, is_some}
use Rattle.std.specs.Str.{bytes_eq}
use Rattle.c_tokens.specs.declared.kind.Sign.{Sign}
use Rattle.c_tokens.specs.declared.kind.Sign.TheVariants as sign
use Rattle.c_grammar.specs.Lexeme.{Lexeme, Placed, Uint64, For}
use Rattle.c_grammar.specs.Terminal.{Terminal, Fixed, Mark, Name, Num, Line, same}
use Rattle.c_grammar.specs.Texts.{Item}
use Rattle.c_grammar.specs.Blocks.{Items, at, bare, is_directive}
use Rattle.c_grammar.specs.Choices.{brackets_behind}
use Rattle.c_grammar.specs.Constants.{Names, depth_behind as braces_behind, is_mark, with_global, with_tokens}
use Rattle.c_grammar.specs.Expressions.{Product, Quotient, Rest, Work, fitting, placed_of, result}
use Rattle.c_grammar.specs.LineRules.{is_among}
use Rattle.c_grammar.specs.Loops.{is_word}
use Rattle.c_grammar.specs.Triangles.{Loop, len, loop_in}

-- ---- names of cells

-- that no source can spell, each five bytes long
unfoldable pub cell_names : List ℕ
cell_names =
    codes "[000][001][002][003][004][005][006][007][008][009][010][011][012][013][014][015][016][017][018][019]" ++
    codes "[020][021][022][023][024][025][026][027][028][029][030][031][032][033][034][035][036][037][038][039]" ++
    codes "[040][041][042][043][044][045][046][047][048][049][050][051][052][053][054][055][056][057][058][059]" ++
    codes "[060][061][062][063][064][065][066][067][068][069][070][071][072][073][074][075][076][077][078][079]" ++
    codes "[080][081][082][083][084][085][086][087][088][089][090][091][092][093][094][095][096][097][098][099]" ++
    codes "[100][101][102][103][104][105][106][107][108][109][110][111][112][113][114][115][116][117][118][119]" ++
    codes "[120][121][122][123][124][125][126][127][128][129][130][131][132][133][134][135][136][137][138][139]" ++
    codes "[140][141][142][143][144][145][146][147][148][149][150][151][152][153][154][155][156][157][158][159]" ++
    codes "[160][161][162][163][164][165][166][167][168][169][170][171][172][173][174][175][176][177][178][179]" ++
    codes "[180][181][182][183][184][185][186][187][188][189][190][191][192][193][194][195][196][197][198][199]" ++
    codes "[200][201][202][203][204][205][206][207][208][209][210][211][212][213][214][215][216][217][218][219]" ++
    codes "[220][221][222][223][224][225][226][227][228][229][230][231][232][233][234][235][236][237][238][239]" ++
    codes "[240][241][242][243][244][245][246][247][248][249][250][251][252][253][254][255]"

abbrev pub max_cells : ℕ
max_cells = 256

abbrev pub cell_name : ℕ → List ℕ
cell_name k = take 5 (drop (5 * k) cell_names)

-- ---- the arrays that can be named

-- so many cells, the first of which has that name
pub record Cells : Type 0 where
  pub first : ℕ
  pub len : ℕ

-- an open block, or an array that is declared in it
pub data Open : Type 0 where
  Block : Open
  Array : (name : List ℕ) (cells : Cells) → Open

-- the innermost of that name
abbrev pub array_in : List Open → List ℕ → Option Cells
array_in [] x = None
array_in (Block ∷ os) x = array_in os x
array_in (Array y c ∷ os) x = if bytes_eq y x then Some c else array_in os x

abbrev pub array_of : List Open → Terminal → Option Cells
array_of os (Name x) = array_in os x
array_of os t = None

abbrev pub has_array : List Open → Bool
has_array [] = false
has_array (Block ∷ os) = has_array os
has_array (Array x c ∷ os) = true

abbrev pub is_inside : List Open → Bool
is_inside [] = false
is_inside (o ∷ os) = true

-- behind the brace that closes the innermost block
abbrev pub closed : List Open → List Open
closed [] = []
closed (Block ∷ os) = os
closed (Array x c ∷ os) = closed os

abbrev pub blocks_behind : List Open → Item Terminal → List Open
blocks_behind os i =
    if is_mark sign.OpenBrace i then Block ∷ os else (if is_mark sign.CloseBrace i then closed os else os)

-- what has been read: the open blocks, and how many tokens have been put in, or how many cells named
pub record State : Type 0 where
  pub blocks : List Open
  pub used : ℕ

abbrev pub begin : State
begin = record { blocks = []; used = 0 }

-- what stands for a token and so many behind it, and the state behind these
pub record Put : Type 0 where
  pub items : Items
  pub state : State
  pub skip : ℕ

abbrev pub put : Items → State → ℕ → Put
put is s k = record { items = is; state = s; skip = k }

-- ---- declarations

-- at most so many tokens of a loop, or of a declaration, are looked at
abbrev pub max_ahead : ℕ
max_ahead = 16384

-- the token that names it; a list of values follows
pub record Declared : Type 0 where
  pub item : Item Terminal
  pub name : List ℕ
  pub len : ℕ
  pub listed : Bool

abbrev pub declared_as : Item Terminal → Terminal → Terminal → Bool → Option Declared
declared_as i (Name x) (Num (Some n)) listed =
    if nat_lt 0 n && nat_le n max_cells then Some (record { item = i; name = x; len = n; listed = listed }) else None
declared_as i t u listed = None

abbrev pub opens_list : Item Terminal → Items → Bool
opens_list e [] = false
opens_list e (b ∷ is) = is_mark sign.Equal e && is_mark sign.OpenBrace b

-- behind the type: NAME [ NUM ] and a semicolon, or = and a brace
abbrev pub declared_in : Items → Option Declared
declared_in (x ∷ o ∷ n ∷ c ∷ e ∷ is) =
    if is_mark sign.OpenBracket o && is_mark sign.CloseBracket c && (is_mark sign.Semicolon e || opens_list e is)
    then declared_as x x.terminal n.terminal (is_mark sign.Equal e) else None
declared_in is = None

abbrev pub declared : List Open → Items → Option Declared
declared os is = if is_inside os then declared_in is else None

abbrev pub with_array : List Open → Declared → ℕ → List Open
with_array os d k = Array d.name (record { first = k; len = d.len }) ∷ os

-- ---- lists of values, as assignments

abbrev pub is_ended : Items → Bool
is_ended [] = false
is_ended (i ∷ is) = is_mark sign.Semicolon i

-- so many tokens stand before the brace that closes the list and the semicolon
abbrev pub list_len : ℕ → Items → Option ℕ
list_len n [] = None
list_len n (i ∷ is) =
    if is_mark sign.CloseBrace i then (if is_ended is then Some n else None)
    else (if is_mark sign.OpenBrace i || is_mark sign.Semicolon i then None else list_len (n + 1) is)

-- NAME [ NUM ] =
abbrev pub setting : Item Terminal → List ℕ → ℕ → Items
setting i x c =
    at i (Name x) ∷ at i (Mark sign.OpenBracket) ∷ at i (Num (Some c)) ∷ at i (Mark sign.CloseBracket) ∷
    at i (Mark sign.Equal) ∷ []

-- at a comma, which may stand behind the last value
abbrev pub next_setting : Item Terminal → List ℕ → ℕ → Items → Items
next_setting i x c [] = []
next_setting i x c (j ∷ is) = at i (Mark sign.Semicolon) ∷ setting i x c

-- the values from that cell on, with so many brackets open
abbrev pub settings : List ℕ → ℕ → ℕ → Items → Items
settings x c b [] = []
settings x c b (i ∷ is) =
    if (b == 0) && is_mark sign.Comma i then next_setting i x (c + 1) is ++ settings x (c + 1) b is
    else i ∷ settings x c (brackets_behind i b) is

-- NAME [ NUM ] ; and the assignments
abbrev pub in_settings : Items → Declared → Items → Items
in_settings front d is =
    front ++ (at d.item (Mark sign.Semicolon) ∷ (setting d.item d.name 0 ++
    (settings d.name 0 0 is ++ at d.item (Mark sign.Semicolon) ∷ [])))

abbrev pub listed_put : State → Item Terminal → Items → Declared → Option ℕ → Option Put
listed_put s i is d None = None
listed_put s i is d (Some n) =
    Some (put (i ∷ in_settings (take 4 is) d (take n (drop 6 is)))
    (record { blocks = with_array s.blocks d 0; used = s.used }) (n + 8))

-- ---- loops

abbrev pub max_turns : ℕ
max_turns = 64

-- so many tokens may be put in, in all
abbrev pub max_put : ℕ
max_put = 65536

-- so many tokens stand before the brace that closes the block, with so many open in it
abbrev pub body_len : ℕ → ℕ → Items → Option ℕ
body_len d n [] = None
body_len d n (i ∷ is) =
    if is_mark sign.CloseBrace i then (if d == 0 then Some n else body_len (d - 1) (n + 1) is)
    else body_len (if is_mark sign.OpenBrace i then d + 1 else d) (n + 1) is

-- the first so many numbers of the name
abbrev pub numbers : ℕ → ℕ → ℕ → ℕ → List ℕ
numbers zero first step end = []
numbers (suc n) first step end = if nat_lt first end then first ∷ numbers n (first + step) step end else []

abbrev pub numbers_of : Loop → List ℕ
numbers_of l = numbers (max_turns + 1) l.start.range.first l.step.amount l.end

abbrev pub depth_behind : Item Terminal → ℕ → ℕ
depth_behind i d =
    if is_mark sign.OpenBracket i then d + 1 else (if is_mark sign.CloseBracket i then d - 1 else d)

-- the name stands in a subscript of such an array. So many brackets of one are open; the token before names one
abbrev pub is_indexed : List Open → List ℕ → Bool → ℕ → Items → Bool
is_indexed os x named d [] = false
is_indexed os x named zero (i ∷ is) =
    is_indexed os x (is_some (array_of os i.terminal)) (if named && is_mark sign.OpenBracket i then 1 else 0) is
is_indexed os x named (suc d) (i ∷ is) = is_word x i || is_indexed os x false (depth_behind i (suc d)) is

-- a token in the turn of that number
abbrev pub with_number : List ℕ → ℕ → Item Terminal → Item Terminal
with_number x n i = if is_word x i then at i (Num (Some n)) else i

-- each turn in a block
abbrev pub turns : Item Terminal → List ℕ → Items → List ℕ → Items
turns i x is [] = []
turns i x is (n ∷ ns) =
    at i (Mark sign.OpenBrace) ∷ (map (with_number x n) is ++ at i (Mark sign.CloseBrace) ∷ turns i x is ns)

abbrev pub put_len : Items → List ℕ → ℕ
put_len is ns = length ns * (length is + 2)

abbrev pub is_unrolled : State → List ℕ → Items → List ℕ → Bool
is_unrolled s x is ns =
    nat_lt 0 (length ns) && nat_le (length ns) max_turns && nat_le (s.used + put_len is ns) max_put &&
    is_indexed s.blocks x false 0 is

-- all turns in a block, since the loop is one statement
abbrev pub turns_put : State → Item Terminal → Loop → Items → List ℕ → Option Put
turns_put s i l is ns =
    if is_unrolled s l.name is ns
    then Some (put (at i (Mark sign.OpenBrace) ∷ (turns i l.name is ns ++ at i (Mark sign.CloseBrace) ∷ []))
    (record { blocks = s.blocks; used = s.used + put_len is ns }) (len l + length is + 1)) else None

abbrev pub body_put : State → Item Terminal → Loop → Items → Option ℕ → Option Put
body_put s i l is None = None
body_put s i l is (Some n) = turns_put s i l (take n is) (numbers_of l)

abbrev pub loop_put : State → Item Terminal → Items → Option Loop → Option Put
loop_put s i is None = None
loop_put s i is (Some l) = (let js : Items = drop (len l) is in body_put s i l js (body_len 0 0 js))

-- where lists are written as assignments, and loops unrolled
abbrev pub unrolled_at : State → Item Terminal → Items → Option Put
unrolled_at s i is =
    if same (Fixed For) i.terminal && has_array s.blocks
    then (let js : Items = take max_ahead is in loop_put s i js (loop_in [] js)) else None

-- ---- subscripts

-- of so many tokens, with its value
pub record Index : Type 0 where
  pub len : ℕ
  pub value : ℕ

-- what has been read: a sum, and a product that is added to it or taken away
pub record Sum : Type 0 where
  pub before : ℕ
  pub minus : Bool
  pub product : ℕ

-- a product with the operator behind it
pub record Factor : Type 0 where
  pub product : ℕ
  pub work : Work

-- what an operand is taken for: a term that is added to a sum or taken away, or a factor of one
pub record Join : Type 0 where
  pub before : ℕ
  pub minus : Bool
  pub factor : Option Factor

abbrev pub first_join : Join
first_join = record { before = 0; minus = false; factor = None }

-- none where it is no number below 2^64
abbrev pub total : Sum → Option ℕ
total a =
    if a.minus then (if nat_lt a.before a.product then None else Some (a.before - a.product)) else fitting (a.before + a.product)

abbrev pub product_of : Option Factor → ℕ → Option ℕ
product_of None n = Some n
product_of (Some f) n = result f.work f.product n

abbrev pub with_product : Join → Option ℕ → Option Sum
with_product j None = None
with_product j (Some p) = Some (record { before = j.before; minus = j.minus; product = p })

-- with an operand, if there is one
abbrev pub joined : Join → Option ℕ → Option Sum
joined j None = None
joined j (Some n) = with_product j (product_of j.factor n)

abbrev pub factor_work : Item Terminal → Option Work
factor_work o =
    if is_mark sign.Star o then Some Product
    else (if is_mark sign.Slash o then Some Quotient else (if is_mark sign.Percent o then Some Rest else None))

abbrev pub factor_join : Sum → Option Work → Option Join
factor_join a None = None
factor_join a (Some w) =
    Some (record { before = a.before; minus = a.minus; factor = Some (record { product = a.product; work = w }) })

abbrev pub term_join : Bool → Option ℕ → Option Join
term_join minus None = None
term_join minus (Some t) = Some (record { before = t; minus = minus; factor = None })

-- behind an operator
abbrev pub next_join : Sum → Item Terminal → Option Join
next_join a o =
    if is_mark sign.Plus o || is_mark sign.Minus o then term_join (is_mark sign.Minus o) (total a)
    else factor_join a (factor_work o)

-- an operand comes next, or an operator
pub data Last : Type 0 where
  Wants : (join : Join) → Last
  Has : (sum : Sum) → Last

-- how it goes on at a token: it is none; it ends with its value; or what comes next, with what each open bracket is taken for
pub data Next : Type 0 where
  Stops : Next
  Ends : (n : ℕ) → Next
  Goes : (last : Last) (waiting : List Join) → Next

abbrev pub has_sum : Option Sum → List Join → Next
has_sum None js = Stops
has_sum (Some a) js = Goes (Has a) js

abbrev pub wants_operand : Option Join → List Join → Next
wants_operand None js = Stops
wants_operand (Some j) js = Goes (Wants j) js

abbrev pub ends_with : Option ℕ → Next
ends_with None = Stops
ends_with (Some n) = Ends n

abbrev pub number_of : Terminal → Option ℕ
number_of (Num n) = n
number_of t = None

abbrev pub operand_at : Join → List Join → Item Terminal → Next
operand_at j js i =
    if is_mark sign.OpenParen i then Goes (Wants first_join) (j ∷ js) else has_sum (joined j (number_of i.terminal)) js

-- a round bracket is closed
abbrev pub closed_at : Sum → List Join → Next
closed_at a [] = Stops
closed_at a (j ∷ js) = has_sum (joined j (total a)) js

-- a square one ends the subscript where no other is open
abbrev pub ended_at : Sum → List Join → Next
ended_at a [] = ends_with (total a)
ended_at a (j ∷ js) = Stops

abbrev pub operator_at : Sum → List Join → Item Terminal → Next
operator_at a js o =
    if is_mark sign.CloseParen o then closed_at a js
    else (if is_mark sign.CloseBracket o then ended_at a js else wants_operand (next_join a o) js)

abbrev pub next_at : Last → List Join → Item Terminal → Next
next_at (Wants j) js i = operand_at j js i
next_at (Has a) js i = operator_at a js i

abbrev pub on_next : ℕ → Next → (Last → List Join → Option Index) → Option Index
on_next k Stops go = None
on_next k (Ends n) go = Some (record { len = k; value = n })
on_next k (Goes l js) go = go l js

abbrev pub index_from : Last → List Join → ℕ → Items → Option Index
index_from l js k [] = None
index_from l js k (i ∷ is) = on_next k (next_at l js i) (λ l js. index_from l js (k + 1) is)

-- the subscript that begins behind a bracket
abbrev pub index_in : Items → Option Index
index_in is = index_from (Wants first_join) [] 0 is

-- at most so many tokens stand in it, with its brackets
abbrev pub max_index : ℕ
max_index = 64

abbrev pub indexed_put : State → Item Terminal → Cells → Option Index → Option Put
indexed_put s i c None = None
indexed_put s i c (Some x) =
    if nat_lt x.value c.len then Some (put (at i (Name (cell_name (c.first + x.value))) ∷ []) s (x.len + 2)) else None

abbrev pub named_put : State → Item Terminal → Items → Option Cells → Option Put
named_put s i is None = None
named_put s i [] (Some c) = None
named_put s i (o ∷ is) (Some c) =
    if is_mark sign.OpenBracket o then indexed_put s i c (index_in is) else None

-- ---- declarations of scalars

-- uint64_t NAME = 0 ; for so many cells
abbrev pub scalars : Item Terminal → Item Terminal → ℕ → ℕ → Items
scalars i x k zero = []
scalars i x k (suc n) =
    i ∷ at x (Name (cell_name k)) ∷ at x (Mark sign.Equal) ∷ at x (Num (Some 0)) ∷ at x (Mark sign.Semicolon) ∷
    scalars i x (k + 1) n

abbrev pub scalars_put : State → Item Terminal → Declared → Option Put
scalars_put s i d =
    if d.listed || nat_lt max_cells (s.used + d.len) then None
    else Some (put (scalars i d.item s.used d.len)
    (record { blocks = with_array s.blocks d s.used; used = s.used + d.len }) 5)

-- ---- all tokens

-- lists are written as assignments, and loops unrolled; then cells are replaced by scalars
pub data Pass : Type 0 where
  Unroll Replace : Pass

abbrev pub declared_put : Pass → State → Item Terminal → Items → Option Declared → Option Put
declared_put p s i is None = None
declared_put Unroll s i is (Some d) =
    if d.listed then (let js : Items = take max_ahead is in listed_put s i js d (list_len 0 (drop 6 js)))
    else Some (put (i ∷ []) (record { blocks = with_array s.blocks d 0; used = s.used }) 0)
declared_put Replace s i is (Some d) = scalars_put s i d

abbrev pub used_put : Pass → State → Item Terminal → Items → Option Put
used_put Unroll s i is = unrolled_at s i is
used_put Replace s i is = named_put s i (take max_index is) (array_of s.blocks i.terminal)

-- what stands for the token and some behind it, where it is not the token
abbrev pub put_at : Pass → State → Item Terminal → Items → Option Put
put_at p s i is =
    if same (Fixed Uint64) i.terminal then declared_put p s i is (declared s.blocks (take 6 is)) else used_put p s i is

abbrev pub plain : State → Item Terminal → Put
plain s i = put (i ∷ []) (record { blocks = blocks_behind s.blocks i; used = s.used }) 0

abbrev pub or_plain : State → Item Terminal → Option Put → Put
or_plain s i None = plain s i
or_plain s i (Some q) = q

abbrev pub Onward : Type 0
Onward = State → ℕ → Items

abbrev pub put_on : Put → Onward → Items
put_on q go = q.items ++ go q.state q.skip

abbrev pub scan_on : Pass → State → ℕ → Item Terminal → Items → Onward → Items
scan_on p s zero i is go = put_on (or_plain s i (put_at p s i is)) go
scan_on p s (suc k) i is go = go s k

-- a line among tokens that are left out has its second word twice, which is a fault there: it would stand for each turn
abbrev pub twice : List Placed → List Placed
twice (p ∷ q ∷ r ∷ ps) = p ∷ q ∷ q ∷ r ∷ ps
twice ps = ps

abbrev pub line_twice : Item Terminal → Terminal → Item Terminal
line_twice i (Line ts) = with_tokens i ts (twice (placed_of ts i.columns))
line_twice i t = i

abbrev pub line_at : ℕ → Item Terminal → Item Terminal
line_at zero i = i
line_at (suc k) i = line_twice i i.terminal

-- the tokens, of which k more are left out
abbrev pub scan : Pass → State → ℕ → Items → Items
scan p s k [] = []
scan p s k (i ∷ is) =
    if is_directive i.terminal then line_at k i ∷ scan p s k is
    else scan_on p s k i (bare is) (λ s k. scan p s k is)

-- loops in loops are unrolled from outside inwards, so many deep
abbrev pub unrolled : Items → Items
unrolled is = scan Unroll begin 0 (scan Unroll begin 0 (scan Unroll begin 0 is))

-- ---- names of globals

-- a block declares an array
abbrev pub declares_array : ℕ → Item Terminal → Items → Bool
declares_array d i (x ∷ b ∷ is) = not (d == 0) && (same (Fixed Uint64) i.terminal && is_mark sign.OpenBracket b)
declares_array d i is = false

abbrev pub is_name_among : Names → Terminal → Bool
is_name_among names (Name x) = is_among names x
is_name_among names t = false

abbrev pub is_taken : Names → Items → Bool
is_taken names [] = false
is_taken names (x ∷ is) = is_name_among names x.terminal

abbrev pub with_outer : ℕ → Item Terminal → Items → Names → Names
with_outer d i is names = if d == 0 then with_global i.terminal is names else names

-- one of the first so many arrays of blocks has the name of a global, which a function that is called there may use
abbrev pub hides_in : ℕ → Names → ℕ → Items → Bool
hides_in left names d [] = false
hides_in left names d (i ∷ is) =
    if declares_array d i is
    then (if left == 0 then false else (is_taken names is || hides_in (left - 1) names (braces_behind i.terminal d) is))
    else hides_in left (with_outer d i is names) (braces_behind i.terminal d) is

abbrev pub hides : Items → Bool
hides is = hides_in max_cells [] 0 is

-- all tokens, with scalars in the place of local arrays; where one of these hides a global, they stay, and are a fault
abbrev pub in_scalars : Items → Items
in_scalars is = if hides (bare is) then is else scan Replace begin 0 (unrolled is)
