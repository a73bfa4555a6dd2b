-- Where constructs are taken together, no name is put outside of a line.
use Rattle.std.proofs.Common.{[], ◌∷◌}
use Rattle.c_grammar.specs.Terminal.{Terminal, Fixed, Mark, Name, Num, Line, Unknown, Unworked, End}
use Rattle.c_grammar.specs.Texts.{Item}
use Rattle.c_grammar.specs.Blocks.{Items}
use Rattle.c_grammar.specs.Nesting.{joined, joined_of, joins, moves, nested, nested_on}
use Rattle.c_grammar.specs.AsciiNames.{IsAsciiTerminal}
use Rattle.c_grammar.proofs.AsciiTokens.{AreItemsText, chosen_text}

joined_text : (i j : Item Terminal) (t u : Terminal) → IsAsciiTerminal i.terminal → IsAsciiTerminal (joined_of i j t u).terminal
joined_text i j (Line ts) (Line us) h = tt
joined_text i j (Line ts) (Fixed w) h = h
joined_text i j (Line ts) (Mark s) h = h
joined_text i j (Line ts) (Name x) h = h
joined_text i j (Line ts) (Num n) h = h
joined_text i j (Line ts) Unknown h = h
joined_text i j (Line ts) Unworked h = h
joined_text i j (Line ts) End h = h
joined_text i j (Fixed w) u h = h
joined_text i j (Mark s) u h = h
joined_text i j (Name x) u h = h
joined_text i j (Num n) u h = h
joined_text i j Unknown u h = h
joined_text i j Unworked u h = h
joined_text i j End u h = h

on_text : (js : Items) (i : Item Terminal) → IsAsciiTerminal i.terminal → AreItemsText js → AreItemsText (nested_on i js)
on_text [] i h k = (h, tt)
on_text (j ∷ js) i h k =
    chosen_text (joins i.terminal j.terminal) (nested_on (joined i j) js) _
    (on_text js (joined i j) (joined_text i j i.terminal j.terminal h) k.1)
    (chosen_text (moves i.terminal j js) (j ∷ nested_on i js) (i ∷ nested_on j js) (k.0, on_text js i h k.1)
    (h, on_text js j k.0 k.1))

pub nested_text : (is : Items) → AreItemsText is → AreItemsText (nested is)
nested_text [] h = h
nested_text (i ∷ is) h = on_text is i h.0 h.1
