-- Tokens whose names are ASCII: as in c_grammar, which does not export this.
use Rattle.std.proofs.Common.{Bool, true, false, cond, List, [], ◌∷◌, ◌++◌}
use Rattle.c_grammar.specs.Texts.{Item}
use Rattle.c_grammar.specs.Terminal.{Terminal}
use Rattle.c_grammar.specs.Blocks.{Items, is_directive, bare}
use Rattle.c_grammar.specs.AsciiNames.{AreAscii, terminals_of}

abbrev pub AreItemsText : List (Item Terminal) → Type 0
AreItemsText is = AreAscii (terminals_of is)

pub chosen_text : (b : Bool) (is js : Items) → AreItemsText is → AreItemsText js → AreItemsText (cond b is js)
chosen_text true is js h k = h
chosen_text false is js h k = k

pub both_text : (is js : Items) → AreItemsText is → AreItemsText js → AreItemsText (is ++ js)
both_text [] js h k = k
both_text (i ∷ is) js h k = (h.0, both_text is js h.1 k)

pub bare_text : (is : Items) → AreItemsText is → AreItemsText (bare is)
bare_text [] h = tt
bare_text (i ∷ is) h = chosen_text (is_directive i.terminal) _ _ (bare_text is h.1) (h.0, bare_text is h.1)
