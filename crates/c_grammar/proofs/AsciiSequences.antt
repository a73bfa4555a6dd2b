-- Where targets are taken apart, no name is put outside of a line.
use Rattle.std.proofs.Common.{Bool, true, false, cond, [], ◌∷◌, ◌++◌, Option, Some, None}
use Rattle.std.specs.Prelude.{◌&&◌, codes}
use Rattle.c_grammar.specs.Terminal.{Terminal, Fixed, Mark, Name, Num, Line, Unknown, Unworked, End}
use Rattle.c_grammar.specs.Texts.{Item}
use Rattle.c_grammar.specs.Blocks.{Items}
use Rattle.c_grammar.specs.Lines.{is_omp}
use Rattle.c_grammar.specs.Sequences.{Between, Inside, Next, On, Over, Stuck, begins_part, data_line, goes_to, has_clause, in_parts, in_parts_from, lead, parts, step}
use Rattle.c_grammar.specs.AsciiNames.{IsAsciiTerminal}
use Rattle.c_grammar.proofs.AsciiTokens.{AreItemsText, both_text, chosen_text}

abbrev IsText : Option Inside → Type 0
IsText None = Unit {0}
IsText (Some w) = IsAsciiTerminal w.target.terminal

data_text : (i : Item Terminal) (t : Terminal) → AreItemsText (data_line i t)
data_text i (Line ts) = chosen_text (is_omp ts && has_clause (codes "map") 0 ts) _ _ (tt, tt) tt
data_text i (Fixed w) = tt
data_text i (Mark s) = tt
data_text i (Name x) = tt
data_text i (Num n) = tt
data_text i Unknown = tt
data_text i Unworked = tt
data_text i End = tt

text_stays : (t : Item Terminal) (next : Next) → IsAsciiTerminal t.terminal → IsText (goes_to t next)
text_stays t (On a) h = h
text_stays t Over h = tt
text_stays t Stuck h = tt

from_text : (is : Items) (w : Option Inside) → IsText w → AreItemsText is → AreItemsText (in_parts_from w is)
from_text [] None q h = tt
from_text [] (Some w) q h = tt
from_text (i ∷ is) None q h =
    chosen_text (parts i.terminal is) _ _
    (both_text (data_line i i.terminal) _ (data_text i i.terminal)
    (from_text is (Some (record { target = i; at = Between 0 })) h.0 h.1))
    (h.0, from_text is None tt h.1)
from_text (i ∷ is) (Some w) q h =
    let next : Next = step w.target.terminal w.at i is in
    both_text (lead w next) _ (chosen_text (begins_part w.at next) _ _ (q, tt) tt)
    (h.0, from_text is (goes_to w.target next) (text_stays w.target next q) h.1)

pub parts_text : (is : Items) → AreItemsText is → AreItemsText (in_parts is)
parts_text is h = from_text is None tt h
