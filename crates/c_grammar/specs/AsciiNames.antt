-- The names of a source are ASCII.
use Rattle.std.specs.Prelude.{List, [], ◌∷◌, map}
use Rattle.std.specs.Str.{IsAscii}
use Rattle.c_grammar.specs.Terminal.{Terminal, Name}
use Rattle.c_grammar.specs.Texts.{Item}

abbrev pub IsAsciiTerminal : Terminal → Type 0
IsAsciiTerminal (Name x) = IsAscii x
IsAsciiTerminal _ = Unit {0}

-- the names of all tokens are ASCII
abbrev pub AreAscii : List Terminal → Type 0
AreAscii [] = Unit {0}
AreAscii (t ∷ ts) = IsAsciiTerminal t × AreAscii ts

abbrev pub terminals_of : List (Item Terminal) → List Terminal
terminals_of is = map (λ i. i.terminal) is
