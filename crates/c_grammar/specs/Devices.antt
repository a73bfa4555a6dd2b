-- Clauses device(NAME): the name is that of a loop around the line, all of whose values are devices. Where it is not, a number
-- that no device has is put in its place, so that the fault is found there. Loops have heads of numbers by then.
use Rattle.std.specs.Prelude.{ℕ, ◌-◌, ◌%◌, Bool, true, false, ◌&&◌, ◌||◌, nat_le, if◌then◌else◌, List, [], ◌∷◌, drop, Option, Some, None, codes}
use Rattle.std.specs.Str.{bytes_eq}
use Rattle.c_tokens.specs.declared.kind.Sign.TheVariants as sign
use Rattle.c_grammar.specs.Lexeme.{Lexeme, Worded, Numbered, For, same}
use Rattle.c_grammar.specs.Terminal.{Terminal, Fixed, Line}
use Rattle.c_grammar.specs.Terminal as terminal
use Rattle.c_grammar.specs.Texts.{Item}
use Rattle.c_grammar.specs.Blocks.{Items, is_directive}
use Rattle.c_grammar.specs.Constants.{is_mark, with_terminal}
use Rattle.c_grammar.specs.Initial.{value_of}
use Rattle.c_grammar.specs.LineForms.{is_sign}
use Rattle.c_grammar.specs.LineRules.{max_device}
use Rattle.c_grammar.specs.Triangles.{name_of}

-- ---- the loops around

-- an open block: of a loop whose values are all devices, by its name, or another one
abbrev pub Block : Type 0
Block = Option (List ℕ)

-- the name is that of such a loop
abbrev pub counts_devices : List Block → List ℕ → Bool
counts_devices [] x = false
counts_devices (None ∷ bs) x = counts_devices bs x
counts_devices (Some y ∷ bs) x = bytes_eq y x || counts_devices bs x

-- all values of the loop are devices: there are none, or the last one is
abbrev pub are_devices : ℕ → ℕ → ℕ → Bool
are_devices first end step = nat_le end first || nat_le (end - 1 - (end - 1 - first) % step) max_device

abbrev pub loop_of : Option (List ℕ) → Option ℕ → Option ℕ → Option ℕ → Block
loop_of (Some x) (Some first) (Some end) (Some step) = if are_devices first end step then Some x else None
loop_of _ _ _ _ = None

-- behind the word for: ( uint64_t NAME = FIRST ; NAME < END ; NAME += STEP
abbrev pub loop_in : Items → Block
loop_in (o ∷ t ∷ x ∷ e ∷ first ∷ s ∷ x' ∷ l ∷ end ∷ s' ∷ x'' ∷ p ∷ step ∷ is) =
    loop_of (name_of x.terminal) (value_of first.terminal) (value_of end.terminal) (value_of step.terminal)
loop_in is = None

-- ---- directive lines

-- what stands right before a token: the word device, or that and a bracket
pub data Before : Type 0 where
  Other TheWord TheBracket : Before

abbrev pub behind_word : Before → Lexeme → Before
behind_word TheWord t = if is_sign sign.OpenParen t then TheBracket else Other
behind_word b t = Other

abbrev pub behind_lexeme : Before → Lexeme → Before
behind_lexeme b t = if same (Worded (codes "device")) t then TheWord else behind_word b t

-- a number that no device has
abbrev pub no_device : Lexeme
no_device = Numbered (Some 4)

abbrev pub closes : List Lexeme → Bool
closes [] = false
closes (t ∷ ts) = is_sign sign.CloseParen t

-- a name stays alone in the brackets
abbrev pub device_for : List Block → Lexeme → List Lexeme → Lexeme
device_for bs (Worded x) ts = if closes ts && counts_devices bs x then Worded x else no_device
device_for bs t ts = t

-- a token before others
abbrev pub put_lexeme : List Block → Before → Lexeme → List Lexeme → Lexeme
put_lexeme bs TheBracket t ts = device_for bs t ts
put_lexeme bs b t ts = t

abbrev pub put_lexemes : List Block → Before → List Lexeme → List Lexeme
put_lexemes bs b [] = []
put_lexemes bs b (t ∷ ts) = put_lexeme bs b t ts ∷ put_lexemes bs (behind_lexeme b t) ts

-- the words pragma omp stay
abbrev pub put_line : List Block → List Lexeme → List Lexeme
put_line bs (t ∷ u ∷ ts) = t ∷ u ∷ put_lexemes bs Other ts
put_line bs ts = ts

abbrev pub line_for : List Block → Item Terminal → Terminal → Item Terminal
line_for bs i (Line ts) = with_terminal i (Line (put_line bs ts))
line_for bs i t = i

-- ---- all tokens

pub record State : Type 0 where
  -- the innermost first
  pub blocks : List Block
  -- what the next brace opens
  pub next : Block

abbrev pub begin : State
begin = record { blocks = []; next = None }

-- behind a token, before others
abbrev pub behind : State → Item Terminal → Items → State
behind s i is =
    if is_mark sign.OpenBrace i then record { blocks = s.next ∷ s.blocks; next = None }
    else (if is_mark sign.CloseBrace i then record { blocks = drop 1 s.blocks; next = None }
    else (if terminal.same (Fixed For) i.terminal then record { blocks = s.blocks; next = loop_in is } else s))

abbrev pub on_devices_in : State → Items → Items
on_devices_in s [] = []
on_devices_in s (i ∷ is) =
    if is_directive i.terminal then line_for s.blocks i i.terminal ∷ on_devices_in s is else i ∷ on_devices_in (behind s i is) is

-- all tokens, with such numbers in the place of names that are no devices
abbrev pub on_devices : Items → Items
on_devices is = on_devices_in begin is
