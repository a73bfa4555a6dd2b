-- Scalars that are constants though they are not declared so: one that is declared with a value where a constant may be
-- declared, which nothing changes behind that, and which stands where a number is wanted: in the head of a loop, in the right
-- operand of a quotient, a remainder or a shift, in the length of an array, or in the size of allocated memory; of type int,
-- wherever it stands. The word const is put before its type. A source in which a scalar stands there, or has the type int, has a
-- fault without that.
use Rattle.std.specs.Prelude.{ℕ, zero, suc, ◌+◌, ◌-◌, ◌==◌, nat_le, Bool, true, false, not, ◌&&◌, ◌||◌, if◌then◌else◌, List, [], ◌∷◌, ◌++◌, codes}
use Rattle.c_tokens.specs.declared.kind.Sign.{Sign}
use Rattle.c_tokens.specs.declared.kind.Sign.TheVariants as sign
use Rattle.c_grammar.specs.Lexeme.{For, Int, Main}
use Rattle.c_grammar.specs.Terminal.{Terminal, Fixed, Line, Mark, Name, Num, same}
use Rattle.c_grammar.specs.Texts.{Item}
use Rattle.c_grammar.specs.Blocks.{Items, at, bare, is_directive}
use Rattle.c_grammar.specs.Constants.{behind_changing, behind_divider, depth_behind}
use Rattle.c_grammar.specs.Changes.{is_boundary, is_mark}
use Rattle.c_grammar.specs.Choices.{is_setting}
use Rattle.c_grammar.specs.Counters.{is_type}
use Rattle.c_grammar.specs.Declarations.{is_given, is_name}
use Rattle.c_grammar.specs.Loops.{is_word, steps}

-- ---- what changes a scalar

abbrev pub begins_change : Items → Bool
begins_change [] = false
begins_change (i ∷ is) = is_setting i.terminal || steps i

abbrev pub begins_word : List ℕ → Items → Bool
begins_word x [] = false
begins_word x (i ∷ is) = is_word x i

-- behind a type: the name, or a star and the name
abbrev pub declares : List ℕ → Items → Bool
declares x [] = false
declares x (i ∷ is) = is_word x i || (is_mark sign.Star i && begins_word x is)

-- there it is assigned, or something else of that name is declared
abbrev pub alters : List ℕ → Item Terminal → Items → Bool
alters x i is =
    (is_word x i && begins_change is) || (steps i && begins_word x is) || (is_type i.terminal && declares x is)

-- ---- where a number is wanted

-- where a token stands: nowhere of these; in the head of a loop, up to its block; where an array is declared or memory
-- allocated, up to the end of that; in the right operand of a quotient, a remainder or a shift, in so many brackets
pub data Place : Type 0 where
  Elsewhere Heading Sizing : Place
  Dividing : (brackets : ℕ) → Place

abbrev pub wants : Place → Bool
wants Elsewhere = false
wants p = true

abbrev pub opens : Items → Bool
opens [] = false
opens (i ∷ is) = is_mark sign.OpenParen i

-- behind a type: the name of an array
abbrev pub begins_array : Items → Bool
begins_array (x ∷ b ∷ is) = is_name x.terminal && is_mark sign.OpenBracket b
begins_array is = false

abbrev pub allocates : Item Terminal → Bool
allocates i = is_word (codes "malloc") i || is_word (codes "calloc") i

-- a number stands behind it
abbrev pub divides_by : Terminal → Bool
divides_by t = behind_divider (t ∷ []) || behind_changing (t ∷ [])

abbrev pub begun : Item Terminal → Items → Place
begun i is =
    if divides_by i.terminal then Dividing 0
    else (if (is_type i.terminal && begins_array is) || (allocates i && opens is) then Sizing else Elsewhere)

abbrev pub closed : ℕ → Place
closed d = if nat_le d 1 then Elsewhere else Dividing (d - 1)

abbrev pub divided : ℕ → Item Terminal → Items → Place
divided d i is =
    if is_mark sign.OpenParen i then Dividing (d + 1)
    else (if is_mark sign.CloseParen i then closed d else (if d == 0 then begun i is else Dividing d))

abbrev pub moved : Place → Item Terminal → Items → Place
moved Elsewhere i is = begun i is
moved Heading i is = if is_mark sign.OpenBrace i then Elsewhere else Heading
moved Sizing i is = if is_mark sign.Equal i || is_mark sign.Semicolon i then Elsewhere else Sizing
moved (Dividing d) i is = divided d i is

-- behind a token
abbrev pub next : Place → Item Terminal → Items → Place
next p i is = if same (Fixed For) i.terminal then Heading else moved p i is

-- nothing alters the scalar, and it stands where a number is wanted, or stood so before
abbrev pub lasts : List ℕ → Place → Bool → Items → Bool
lasts x p found [] = found
lasts x p found (i ∷ is) = not (alters x i is) && lasts x (next p i is) (found || (wants p && is_word x i)) is

-- ---- its value

abbrev pub is_operator : Sign → Bool
is_operator sign.Plus = true
is_operator sign.Minus = true
is_operator sign.Star = true
is_operator sign.Slash = true
is_operator sign.Percent = true
is_operator sign.ShiftLeft = true
is_operator sign.ShiftRight = true
is_operator sign.OpenParen = true
is_operator sign.CloseParen = true
is_operator s = false

abbrev pub is_part : Terminal → Bool
is_part (Num n) = true
is_part (Name x) = true
is_part (Mark s) = is_operator s
is_part t = false

-- numbers, names and operators up to a semicolon, and no call
abbrev pub has_value : Items → Bool
has_value [] = false
has_value (i ∷ is) =
    is_mark sign.Semicolon i || ((is_part i.terminal && not (is_name i.terminal && opens is)) && has_value is)

-- ---- its declaration

abbrev pub lasts_as : Bool → Terminal → Items → Bool
lasts_as found (Name x) is = lasts x Elsewhere found is
lasts_as found t is = false

-- of this type: an int need not stand where a number is wanted
abbrev pub is_lasting : Item Terminal → Items → Bool
is_lasting i (x ∷ e ∷ is) = has_value is && lasts_as (same (Fixed Int) i.terminal) x.terminal is
is_lasting i is = false

-- so many declarations are looked at
abbrev pub most_looked : ℕ
most_looked = 256

-- in how many blocks, whether behind the name of main, whether a statement begins, and how many declarations are still looked at
pub record State : Type 0 where
  pub depth : ℕ
  pub main : Bool
  pub starts : Bool
  pub left : ℕ

abbrev pub begin : State
begin = record { depth = 0; main = false; starts = true; left = most_looked }

abbrev pub may_declare : State → Bool
may_declare s = s.starts && ((s.depth == 0) || (s.main && (s.depth == 1)))

-- a declaration that is looked at
abbrev pub is_looked : State → Item Terminal → Items → Bool
is_looked s i is = may_declare s && (is_type i.terminal && (not (s.left == 0) && is_given is))

-- a line that begins with #, as one that defines a constant, ends no statement and begins none
abbrev pub is_line : Terminal → Bool
is_line (Line ts) = true
is_line t = false

abbrev pub behind : State → Item Terminal → Items → State
behind s i is = record {
  depth = depth_behind i.terminal s.depth;
  main = s.main || same (Fixed Main) i.terminal;
  starts = is_boundary i.terminal || (is_line i.terminal && s.starts);
  left = if is_looked s i is then s.left - 1 else s.left;
}

abbrev pub const_at : Item Terminal → Items
const_at i = at i (Name (codes "const")) ∷ []

abbrev pub const_for : State → Item Terminal → Items → Items
const_for s i is = if is_looked s i is && is_lasting i is then const_at i else []

abbrev pub lasting_in : State → Items → Items
lasting_in s [] = []
lasting_in s (i ∷ is) =
    if is_directive i.terminal then i ∷ lasting_in s is
    else const_for s i (bare is) ++ i ∷ lasting_in (behind s i (bare is)) is

-- all tokens, with these words
abbrev pub lasting : Items → Items
lasting is = lasting_in begin is
