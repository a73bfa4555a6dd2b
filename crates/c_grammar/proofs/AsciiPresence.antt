-- Where arrays are said to be present, no name is put outside of a line.
use Rattle.std.proofs.Common.{◌≡◌, Bool, true, false, cond, [], ◌∷◌, refl, sym, subst}
use Rattle.c_grammar.specs.Terminal.{Terminal, Fixed, Mark, Name, Num, Line, Unknown, Unworked, End}
use Rattle.c_grammar.specs.Texts.{Item}
use Rattle.c_grammar.specs.Blocks.{Items, bare}
use Rattle.c_grammar.specs.Constants.{Names, with_tokens}
use Rattle.c_grammar.specs.Expressions.{placed_of}
use Rattle.c_grammar.specs.Lines.{is_omp}
use Rattle.c_grammar.specs.Presence.{guarded, guarded_item, guarded_tokens}
use Rattle.c_grammar.specs.AsciiNames.{IsAsciiTerminal}
use Rattle.c_grammar.proofs.AsciiTokens.{AreItemsText}

item_text : (names : Names) (i : Item Terminal) (t : Terminal) (is : Items) → i.terminal ≡ t → IsAsciiTerminal t →
    IsAsciiTerminal (guarded_item names i t is).terminal
item_text names i (Line ts) is e h = go (is_omp ts)
  where
    go : (b : Bool) → IsAsciiTerminal (cond b (with_tokens i ts (guarded_tokens names ts is (placed_of ts i.columns))) i).terminal
    go true = tt
    go false = subst (λ (t : Terminal). IsAsciiTerminal t) (sym e) h
item_text names i (Fixed w) is e h = subst (λ (t : Terminal). IsAsciiTerminal t) (sym e) h
item_text names i (Mark s) is e h = subst (λ (t : Terminal). IsAsciiTerminal t) (sym e) h
item_text names i (Name x) is e h = subst (λ (t : Terminal). IsAsciiTerminal t) (sym e) h
item_text names i (Num n) is e h = subst (λ (t : Terminal). IsAsciiTerminal t) (sym e) h
item_text names i Unknown is e h = subst (λ (t : Terminal). IsAsciiTerminal t) (sym e) h
item_text names i Unworked is e h = subst (λ (t : Terminal). IsAsciiTerminal t) (sym e) h
item_text names i End is e h = subst (λ (t : Terminal). IsAsciiTerminal t) (sym e) h

pub guarded_text : (names : Names) (is : Items) → AreItemsText is → AreItemsText (guarded names is)
guarded_text names [] h = h
guarded_text names (i ∷ is) h = (item_text names i i.terminal (bare is) refl h.0, guarded_text names is h.1)
