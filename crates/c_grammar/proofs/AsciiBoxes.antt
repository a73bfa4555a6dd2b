-- Where scalars are boxed, no name is put outside of a line.
use Rattle.std.proofs.Common.{◌≡◌, Bool, true, false, cond, [], ◌∷◌, refl, sym, subst}
use Rattle.std.specs.Prelude.{◌&&◌, not}
use Rattle.c_grammar.specs.Terminal.{Terminal, Fixed, Mark, Name, Num, Line, Unknown, Unworked, End}
use Rattle.c_grammar.specs.Texts.{Item}
use Rattle.c_grammar.specs.Blocks.{Items, bare, is_directive}
use Rattle.c_grammar.specs.Constants.{Names, with_tokens}
use Rattle.c_grammar.specs.Expressions.{placed_of}
use Rattle.c_grammar.specs.Lines.{is_omp}
use Rattle.c_grammar.specs.Allocations.{begins_main}
use Rattle.c_grammar.specs.Boxes.{announced, before_main, boxed, boxed_item, boxed_lines, boxed_tokens, boxes_of, named_before}
use Rattle.c_grammar.specs.AsciiNames.{IsAsciiTerminal}
use Rattle.c_grammar.proofs.AsciiTokens.{AreItemsText, chosen_text}

item_text : (names : Names) (i : Item Terminal) (t : Terminal) (is : Items) → i.terminal ≡ t → IsAsciiTerminal t →
    IsAsciiTerminal (boxed_item names i t is).terminal
item_text names i (Line ts) is e h = go (is_omp ts)
  where
    go : (b : Bool) →
        IsAsciiTerminal (cond b (with_tokens i ts (boxed_tokens names ts is (placed_of ts i.columns))) i).terminal
    go true = tt
    go false = subst (λ (t : Terminal). IsAsciiTerminal t) (sym e) h
item_text names i (Fixed w) is e h = subst (λ (t : Terminal). IsAsciiTerminal t) (sym e) h
item_text names i (Mark s) is e h = subst (λ (t : Terminal). IsAsciiTerminal t) (sym e) h
item_text names i (Name x) is e h = subst (λ (t : Terminal). IsAsciiTerminal t) (sym e) h
item_text names i (Num n) is e h = subst (λ (t : Terminal). IsAsciiTerminal t) (sym e) h
item_text names i Unknown is e h = subst (λ (t : Terminal). IsAsciiTerminal t) (sym e) h
item_text names i Unworked is e h = subst (λ (t : Terminal). IsAsciiTerminal t) (sym e) h
item_text names i End is e h = subst (λ (t : Terminal). IsAsciiTerminal t) (sym e) h

lines_text : (names : Names) (is : Items) → AreItemsText is → AreItemsText (boxed_lines names is)
lines_text names [] h = h
lines_text names (i ∷ is) h = (item_text names i i.terminal (bare is) refl h.0, lines_text names is h.1)

pub boxed_text : (is : Items) → AreItemsText is → AreItemsText (boxed is)
boxed_text is h = lines_text (boxes_of is) is h

named_text : (names : Names) (i : Item Terminal) (is : Items) → AreItemsText (i ∷ is) →
    AreItemsText (named_before names (i ∷ is))
named_text [] i is h = h
named_text (x ∷ xs) i is h = (tt, h)

before_text : (names : Names) (is : Items) → AreItemsText is → AreItemsText (before_main names is)
before_text names [] h = tt
before_text names (i ∷ is) h =
    chosen_text (begins_main i (bare is) && not (is_directive i.terminal)) _ _ (named_text names i is h)
    (h.0, before_text names is h.1)

pub announced_text : (is : Items) → AreItemsText is → AreItemsText (announced is)
announced_text is h = before_text (boxes_of is) is h
