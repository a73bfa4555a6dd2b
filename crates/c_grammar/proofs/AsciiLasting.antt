-- Where scalars become constants, names stay ASCII.
use Rattle.std.proofs.Common.{ℕ, Bool, true, false, List, [], ◌∷◌, ◌++◌, refl}
use Rattle.std.specs.Prelude.{◌&&◌}
use Rattle.std.specs.Str.{IsAscii}
use Rattle.c_grammar.specs.Terminal.{Terminal}
use Rattle.c_grammar.specs.Texts.{Item}
use Rattle.c_grammar.specs.Blocks.{Items, at, bare, is_directive}
use Rattle.c_grammar.specs.AsciiNames.{IsAsciiTerminal}
use Rattle.c_grammar.specs.Lasting.{State, begin, behind, const_at, const_for, is_lasting, is_looked, lasting, lasting_in}
use Rattle.c_grammar.proofs.AsciiTokens.{AreItemsText, both_text, chosen_text}
use Rattle.c_grammar.proofs.AsciiPassed.{AreLow, all_low, low_text}
use Rattle.std.specs.Prelude.{codes}

word_text : IsAscii (codes "const")
word_text = low_text (codes "const") (all_low (codes "const") refl)

lasting_in_text : (is : Items) (s : State) → AreItemsText is → AreItemsText (lasting_in s is)
lasting_in_text [] s h = tt
lasting_in_text (i ∷ is) s h =
    chosen_text (is_directive i.terminal) _ _ (h.0, lasting_in_text is s h.1)
    (both_text (const_for s i (bare is)) _
    (chosen_text (is_looked s i (bare is) && is_lasting i (bare is)) (const_at i) [] (word_text, tt) tt)
    (h.0, lasting_in_text is (behind s i (bare is)) h.1))

pub lasting_text : (is : Items) → AreItemsText is → AreItemsText (lasting is)
lasting_text is h = lasting_in_text is begin h
