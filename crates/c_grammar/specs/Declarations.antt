-- The type int of a loop's name, and of a constant, is uint64_t. Where an expression that is made of them has another value in
-- C, that is told elsewhere.
use Rattle.std.specs.Prelude.{Bool, true, false, ◌&&◌, if◌then◌else◌, [], ◌∷◌, codes}
use Rattle.c_tokens.specs.declared.kind.Sign.TheVariants as sign
use Rattle.c_grammar.specs.Lexeme.{Uint64, Int, For}
use Rattle.c_grammar.specs.Terminal.{Terminal, Fixed, Name, same}
use Rattle.c_grammar.specs.Texts.{Item}
use Rattle.c_grammar.specs.Blocks.{Items, at, bare, is_directive}
use Rattle.c_grammar.specs.Changes.{is_mark}

-- what stands right before a token: the word for; that and a bracket, or the word const, behind which the type may be int
pub data Before : Type 0 where
  Other IsFor MayBeInt : Before

abbrev pub is_name : Terminal → Bool
is_name (Name x) = true
is_name t = false

-- NAME = follows
abbrev pub is_given : Items → Bool
is_given (x ∷ e ∷ is) = is_name x.terminal && is_mark sign.Equal e
is_given is = false

-- the word int that may stand there
abbrev pub is_int : Before → Item Terminal → Items → Bool
is_int MayBeInt i is = same (Fixed Int) i.terminal && is_given is
is_int b i is = false

abbrev pub behind_other : Item Terminal → Before
behind_other i =
    if same (Fixed For) i.terminal then IsFor else (if same (Name (codes "const")) i.terminal then MayBeInt else Other)

-- behind a token
abbrev pub behind : Before → Item Terminal → Before
behind IsFor i = if is_mark sign.OpenParen i then MayBeInt else behind_other i
behind b i = behind_other i

abbrev pub Onward : Type 0
Onward = Before → Items

abbrev pub settled_on : Before → Item Terminal → Items → Onward → Items
settled_on b i is go = if is_int b i is then at i (Fixed Uint64) ∷ go Other else i ∷ go (behind b i)

-- the tokens with these types
abbrev pub settled : Before → Items → Items
settled b [] = []
settled b (i ∷ is) =
    if is_directive i.terminal then i ∷ settled b is else settled_on b i (bare is) (λ b. settled b is)
