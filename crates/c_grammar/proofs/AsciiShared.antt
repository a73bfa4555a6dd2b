-- Where lines get a clause that they lack, no name changes.
use Rattle.std.proofs.Common.{◌≡◌, Bool, true, false, cond, [], ◌∷◌, refl, sym, subst}
use Rattle.std.specs.Prelude.{◌&&◌}
use Rattle.c_grammar.specs.Terminal.{Terminal, Fixed, Mark, Name, Num, Line, Unknown, Unworked, End}
use Rattle.c_grammar.specs.Texts.{Item}
use Rattle.c_grammar.specs.Blocks.{Items, bare}
use Rattle.c_grammar.specs.Boxes.{boxes_of}
use Rattle.c_grammar.specs.Constants.{with_tokens}
use Rattle.c_grammar.specs.Expressions.{placed_of}
use Rattle.c_grammar.specs.Lines.{is_omp}
use Rattle.c_grammar.specs.Presence.{before_end, is_target, no_clause, target_column}
use Rattle.c_grammar.specs.Shared.{all_kept, apart, awaited, block_arrays, copies_at, marked, marked_at, shares_at, unshared, waits_at}
use Rattle.c_grammar.specs.AsciiNames.{IsAsciiTerminal}
use Rattle.c_grammar.proofs.AsciiTokens.{AreItemsText}

mark_text : (b : Bool) (i : Item Terminal) (t : Terminal) → i.terminal ≡ t → IsAsciiTerminal t →
    IsAsciiTerminal (marked_at b i t).terminal
mark_text b i (Line ts) e h = go (is_omp ts && (is_target ts && b))
  where
    go : (c : Bool) →
        IsAsciiTerminal (cond c (with_tokens i ts (before_end (no_clause (target_column (placed_of ts i.columns))) (placed_of ts i.columns))) i).terminal
    go true = tt
    go false = subst (λ (t : Terminal). IsAsciiTerminal t) (sym e) h
mark_text b i (Fixed w) e h = subst (λ (t : Terminal). IsAsciiTerminal t) (sym e) h
mark_text b i (Mark s) e h = subst (λ (t : Terminal). IsAsciiTerminal t) (sym e) h
mark_text b i (Name x) e h = subst (λ (t : Terminal). IsAsciiTerminal t) (sym e) h
mark_text b i (Num n) e h = subst (λ (t : Terminal). IsAsciiTerminal t) (sym e) h
mark_text b i Unknown e h = subst (λ (t : Terminal). IsAsciiTerminal t) (sym e) h
mark_text b i Unworked e h = subst (λ (t : Terminal). IsAsciiTerminal t) (sym e) h
mark_text b i End e h = subst (λ (t : Terminal). IsAsciiTerminal t) (sym e) h

marked_text : (f : Terminal → Items → Bool) (is : Items) → AreItemsText is → AreItemsText (marked f is)
marked_text f [] h = h
marked_text f (i ∷ is) h = (mark_text (f i.terminal (bare is)) i i.terminal refl h.0, marked_text f is h.1)

pub unshared_text : (is : Items) → AreItemsText is → AreItemsText (unshared is)
unshared_text is h = marked_text shares_at is h

pub awaited_text : (is : Items) → AreItemsText is → AreItemsText (awaited is)
awaited_text is h = marked_text (waits_at (block_arrays 0 [] (bare is))) is h

pub apart_text : (is : Items) → AreItemsText is → AreItemsText (apart is)
apart_text is h = marked_text (copies_at (boxes_of is) (all_kept is [])) is h
