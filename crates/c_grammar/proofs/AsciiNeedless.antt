-- Where what says nothing is left out, no name is put in.
use Rattle.std.proofs.Common.{ℕ, zero, suc, [], ◌∷◌, Option, Some, None}
use Rattle.c_grammar.specs.Terminal.{Terminal}
use Rattle.c_grammar.specs.Texts.{Item}
use Rattle.c_grammar.specs.AsciiNames.{IsAsciiTerminal}
use Rattle.c_grammar.specs.Blocks.{Items, bare, is_directive}
use Rattle.c_grammar.specs.Needless.{Onward, State, begin, behind, is_outside, left_out, needed, needed_by, needed_in, needed_on}
use Rattle.c_grammar.proofs.AsciiTokens.{AreItemsText, chosen_text}

abbrev OnwardText : Onward → Type 0
OnwardText go = (s : State) (k : ℕ) → AreItemsText (go s k)

by_text : (s : State) (i : Item Terminal) (o : Option ℕ) (go : Onward) → IsAsciiTerminal i.terminal → OnwardText go
    → AreItemsText (needed_by s i o go)
by_text s i None go h r = (h, r (behind s i) 0)
by_text s i (Some n) go h r = chosen_text (is_outside s.braces) _ _ (r s n) (tt, (tt, r s n))

on_text : (s : State) (k : ℕ) (i : Item Terminal) (is : Items) (go : Onward) → IsAsciiTerminal i.terminal
    → OnwardText go
    → AreItemsText (needed_on s k i is go)
on_text s zero i is go h r = by_text s i (left_out s i is) go h r
on_text s (suc k) i is go h r = r s k

in_text : (is : Items) (s : State) (k : ℕ) → AreItemsText is → AreItemsText (needed_in s k is)
in_text [] s k h = tt
in_text (i ∷ is) s k h =
    chosen_text (is_directive i.terminal) _ _ (h.0, in_text is s k h.1)
    (on_text s k i (bare is) (λ s k. needed_in s k is) h.0 (λ s k. in_text is s k h.1))

pub needed_text : (is : Items) → AreItemsText is → AreItemsText (needed is)
needed_text is h = in_text is begin 0 h
