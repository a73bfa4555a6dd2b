-- Which devices loops count: the names are ASCII as before.
use Rattle.std.proofs.Common.{◌≡◌, Bool, true, false, cond, List, [], ◌∷◌}
use Rattle.c_grammar.specs.Terminal.{Terminal, Fixed, Mark, Name, Num, Line, Unknown, Unworked, End}
use Rattle.c_grammar.specs.Texts.{Item}
use Rattle.c_grammar.specs.AsciiNames.{IsAsciiTerminal}
use Rattle.c_grammar.specs.Blocks.{Items, is_directive}
use Rattle.c_grammar.specs.Devices.{Block, State, begin, behind, line_for, on_devices, on_devices_in}
use Rattle.c_grammar.proofs.AsciiTokens.{AreItemsText, chosen_text}

line_text : (bs : List Block) (i : Item Terminal) (t : Terminal) → IsAsciiTerminal i.terminal →
    IsAsciiTerminal (line_for bs i t).terminal
line_text bs i (Line ts) h = tt
line_text bs i (Fixed w) h = h
line_text bs i (Mark s) h = h
line_text bs i (Name x) h = h
line_text bs i (Num n) h = h
line_text bs i Unknown h = h
line_text bs i Unworked h = h
line_text bs i End h = h

in_text : (is : Items) (s : State) → AreItemsText is → AreItemsText (on_devices_in s is)
in_text [] s h = tt
in_text (i ∷ is) s h =
    chosen_text (is_directive i.terminal) _ _ (line_text s.blocks i i.terminal h.0, in_text is s h.1)
    (h.0, in_text is (behind s i is) h.1)

pub devices_text : (is : Items) → AreItemsText is → AreItemsText (on_devices is)
devices_text is h = in_text is begin h
