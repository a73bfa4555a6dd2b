-- Where the types of declarations are written out, no name changes.
use Rattle.std.proofs.Common.{[], ◌∷◌}
use Rattle.c_grammar.specs.Terminal.{Terminal}
use Rattle.c_grammar.specs.Texts.{Item}
use Rattle.c_grammar.specs.Blocks.{Items, bare, is_directive}
use Rattle.c_grammar.specs.Declarations.{Before, Onward, is_int, settled, settled_on}
use Rattle.c_grammar.specs.AsciiNames.{IsAsciiTerminal}
use Rattle.c_grammar.proofs.AsciiTokens.{AreItemsText, chosen_text}

on_text : (b : Before) (i : Item Terminal) (is : Items) (go : Onward) → IsAsciiTerminal i.terminal →
    ((b : Before) → AreItemsText (go b)) → AreItemsText (settled_on b i is go)
on_text b i is go h r = chosen_text (is_int b i is) _ _ (tt, r _) (h, r _)

pub settled_text : (is : Items) (b : Before) → AreItemsText is → AreItemsText (settled b is)
settled_text [] b h = tt
settled_text (i ∷ is) b h =
    chosen_text (is_directive i.terminal) _ _ (h.0, settled_text is b h.1)
    (on_text b i (bare is) (λ b. settled b is) h.0 (λ b. settled_text is b h.1))
