-- Where lines say of updates that they commute, no name is put outside of a line.
use Rattle.std.proofs.Common.{List, [], ◌∷◌}
use Rattle.std.specs.Prelude.{◌&&◌}
use Rattle.c_grammar.specs.Lexeme.{Lexeme}
use Rattle.c_grammar.specs.Terminal.{Terminal, Fixed, Mark, Name, Num, Line, Unknown, Unworked, End}
use Rattle.c_grammar.specs.Texts.{Item}
use Rattle.c_grammar.specs.Blocks.{Items, is_directive}
use Rattle.c_grammar.specs.Updates.{Region, Outside, Inside, OnRegion, behind, commuting, directive_on, has_extreme, is_atomic, is_changed, is_combined, is_compare, line_on, marked}
use Rattle.c_grammar.specs.AsciiNames.{IsAsciiTerminal}
use Rattle.c_grammar.proofs.AsciiTokens.{AreItemsText, chosen_text}

abbrev AreText : OnRegion → Type 0
AreText go = (r : Region) → AreItemsText (go r)

line_text : (i : Item Terminal) (ts : List Lexeme) (is : Items) (r : Region) (go : OnRegion) → IsAsciiTerminal i.terminal →
    AreText go → AreItemsText (line_on i ts is r go)
line_text i ts is r go h k =
    chosen_text (is_combined ts) _ _ (tt, k _) (chosen_text (is_atomic ts) _ _ (tt, k r)
    (chosen_text (is_compare ts && has_extreme is) _ _ (tt, k r) (h, k r)))

directive_text : (i : Item Terminal) (t : Terminal) (is : Items) (r : Region) (go : OnRegion) → IsAsciiTerminal i.terminal →
    AreText go → AreItemsText (directive_on i t is r go)
directive_text i (Line ts) is r go h k = line_text i ts is r go h k
directive_text i (Fixed w) is r go h k = (h, k r)
directive_text i (Mark s) is r go h k = (h, k r)
directive_text i (Name x) is r go h k = (h, k r)
directive_text i (Num n) is r go h k = (h, k r)
directive_text i Unknown is r go h k = (h, k r)
directive_text i Unworked is r go h k = (h, k r)
directive_text i End is r go h k = (h, k r)

marked_text : (r : Region) (i : Item Terminal) (is : Items) (go : OnRegion) → IsAsciiTerminal i.terminal → AreText go →
    AreItemsText (marked r i is go)
marked_text Outside i is go h k = (h, k Outside)
marked_text (Inside xs d starts) i is go h k =
    chosen_text (starts && is_changed xs i is) _ _ (tt, (h, k (behind xs d i is))) (h, k (behind xs d i is))

pub commuting_text : (is : Items) (r : Region) → AreItemsText is → AreItemsText (commuting r is)
commuting_text [] r h = tt
commuting_text (i ∷ is) r h =
    chosen_text (is_directive i.terminal) _ _
    (directive_text i i.terminal is r (λ r. commuting r is) h.0 (λ r. commuting_text is r h.1))
    (marked_text r i is (λ r. commuting r is) h.0 (λ r. commuting_text is r h.1))
