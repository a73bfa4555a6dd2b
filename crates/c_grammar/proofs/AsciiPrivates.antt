-- Where scalars are declared where they are first assigned, and clauses private left out, no name changes.
use Rattle.std.proofs.Common.{◌≡◌, ℕ, Bool, true, false, cond, List, [], ◌∷◌, ◌++◌, refl, sym, subst}
use Rattle.std.specs.Prelude.{◌==◌, ◌&&◌, ◌||◌}
use Rattle.c_tokens.specs.declared.kind.Sign.TheVariants as sign
use Rattle.c_grammar.specs.Lexeme.{Uint64}
use Rattle.c_grammar.specs.Terminal.{Terminal, Fixed, Mark, Name, Num, Line, Unknown, Unworked, End, same}
use Rattle.c_grammar.specs.Texts.{Item}
use Rattle.c_grammar.specs.Blocks.{Items, at, bare, is_directive}
use Rattle.c_grammar.specs.Constants.{Names, is_mark, with_tokens}
use Rattle.c_grammar.specs.Expressions.{placed_of}
use Rattle.c_grammar.specs.Lines.{is_omp}
use Rattle.c_grammar.specs.Presence.{before_end, is_declared, is_target, no_clause, target_column}
use Rattle.c_grammar.specs.Updates.{is_combined}
use Rattle.c_grammar.specs.Moves.{Barred, Before, Ending, Other, Stand, Starts, Typed, all_moved, begin, behind, behind_put, is_ending, moved, moved_names, name_put, other_put, passed}
use Rattle.c_grammar.specs.Privates.{declared, noted, noted_item, owned, owned_by, owned_item, owned_lines, owned_tokens, shares}
use Rattle.c_grammar.specs.AsciiNames.{IsAsciiTerminal}
use Rattle.c_grammar.proofs.AsciiTokens.{AreItemsText, both_text, chosen_text}

item_text : (i : Item Terminal) (t : Terminal) (is : Items) → i.terminal ≡ t → IsAsciiTerminal t →
    IsAsciiTerminal (owned_item i t is).terminal
item_text i (Line ts) is e h = go (is_omp ts && is_target ts)
  where
    go : (b : Bool) →
        IsAsciiTerminal (cond b (with_tokens i ts (owned_tokens (declared [] 0 is) (placed_of ts i.columns))) i).terminal
    go true = tt
    go false = subst (λ (t : Terminal). IsAsciiTerminal t) (sym e) h
item_text i (Fixed w) is e h = subst (λ (t : Terminal). IsAsciiTerminal t) (sym e) h
item_text i (Mark s) is e h = subst (λ (t : Terminal). IsAsciiTerminal t) (sym e) h
item_text i (Name x) is e h = subst (λ (t : Terminal). IsAsciiTerminal t) (sym e) h
item_text i (Num n) is e h = subst (λ (t : Terminal). IsAsciiTerminal t) (sym e) h
item_text i Unknown is e h = subst (λ (t : Terminal). IsAsciiTerminal t) (sym e) h
item_text i Unworked is e h = subst (λ (t : Terminal). IsAsciiTerminal t) (sym e) h
item_text i End is e h = subst (λ (t : Terminal). IsAsciiTerminal t) (sym e) h

lines_text : (is : Items) → AreItemsText is → AreItemsText (owned_lines is)
lines_text [] h = h
lines_text (i ∷ is) h = (item_text i i.terminal (bare is) refl h.0, lines_text is h.1)

-- ---- lines that lack a clause

note_text : (xs : Names) (i : Item Terminal) (t : Terminal) (is : Items) → i.terminal ≡ t → IsAsciiTerminal t →
    IsAsciiTerminal (noted_item xs i t is).terminal
note_text xs i (Line ts) is e h = go (is_omp ts && is_combined ts && shares xs ts is)
  where
    go : (b : Bool) →
        IsAsciiTerminal (cond b (with_tokens i ts (before_end (no_clause (target_column (placed_of ts i.columns))) (placed_of ts i.columns))) i).terminal
    go true = tt
    go false = subst (λ (t : Terminal). IsAsciiTerminal t) (sym e) h
note_text xs i (Fixed w) is e h = subst (λ (t : Terminal). IsAsciiTerminal t) (sym e) h
note_text xs i (Mark s) is e h = subst (λ (t : Terminal). IsAsciiTerminal t) (sym e) h
note_text xs i (Name x) is e h = subst (λ (t : Terminal). IsAsciiTerminal t) (sym e) h
note_text xs i (Num n) is e h = subst (λ (t : Terminal). IsAsciiTerminal t) (sym e) h
note_text xs i Unknown is e h = subst (λ (t : Terminal). IsAsciiTerminal t) (sym e) h
note_text xs i Unworked is e h = subst (λ (t : Terminal). IsAsciiTerminal t) (sym e) h
note_text xs i End is e h = subst (λ (t : Terminal). IsAsciiTerminal t) (sym e) h

noted_text : (xs : Names) (is : Items) → AreItemsText is → AreItemsText (noted xs is)
noted_text xs [] h = h
noted_text xs (i ∷ is) h = (note_text xs i i.terminal (bare is) refl h.0, noted_text xs is h.1)

-- ---- scalars that are declared where they are first assigned

name_text : (b : Before) (s : Stand) (i : Item Terminal) → IsAsciiTerminal i.terminal → AreItemsText (name_put b s i)
name_text Typed s i h = tt
name_text Starts s i h = chosen_text (s.owned == 0) (at i (Fixed Uint64) ∷ i ∷ []) (i ∷ []) (tt, (h, tt)) (h, tt)
name_text Other s i h = (h, tt)
name_text Barred s i h = (h, tt)
name_text Ending s i h = (h, tt)

other_text : (x : List ℕ) (b : Before) (i : Item Terminal) (is : Items) → IsAsciiTerminal i.terminal →
    AreItemsText (other_put x b i is)
other_text x b i is h = chosen_text (is_declared x i is || (is_ending b && is_mark sign.Semicolon i)) [] (i ∷ []) tt (h, tt)

moved_text : (x : List ℕ) (is : Items) (b : Before) (s : Stand) → AreItemsText is → AreItemsText (moved x b s is)
moved_text x [] b s h = tt
moved_text x (i ∷ is) b s h =
    let named : AreItemsText (moved x (behind x b i) (behind_put b s) is) = moved_text x is _ _ h.1 in
    let other : AreItemsText (moved x (behind x b i) (passed i s) is) = moved_text x is _ _ h.1 in
    chosen_text (is_directive i.terminal) _ _ (h.0, moved_text x is b s h.1)
    (chosen_text (same (Name x) i.terminal) _ _ (both_text (name_put b s i) _ (name_text b s i h.0) named)
    (both_text (other_put x b i (bare is)) _ (other_text x b i (bare is) h.0) other))

all_text : (xs : Names) (is : Items) → AreItemsText is → AreItemsText (all_moved xs is)
all_text [] is h = h
all_text (x ∷ xs) is h = all_text xs (moved x Starts begin is) (moved_text x is Starts begin h)

-- ---- all of it

by_text : (xs : Names) (is : Items) → AreItemsText is → AreItemsText (owned_by xs is)
by_text xs is h = lines_text (all_moved xs (noted xs is)) (all_text xs (noted xs is) (noted_text xs is h))

pub owned_text : (is : Items) → AreItemsText is → AreItemsText (owned is)
owned_text is h = by_text (moved_names (bare is)) is h
