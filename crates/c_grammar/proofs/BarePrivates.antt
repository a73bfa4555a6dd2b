-- Clauses private are left out of directive lines alone, and put there alone, and where scalars are declared no line is asked.
use Rattle.std.proofs.Common.{◌≡◌, ◌∙◌, Bool, true, false, cond, List, [], ◌∷◌, refl, sym, ap}
use Rattle.std.specs.Prelude.{◌&&◌}
use Rattle.c_grammar.specs.Lexeme.{Lexeme, Placed}
use Rattle.c_grammar.specs.Terminal.{Terminal, Fixed, Mark, Name, Num, Line, Unknown, Unworked, End}
use Rattle.c_grammar.specs.Texts.{Item}
use Rattle.c_grammar.specs.Blocks.{Items, bare, is_directive}
use Rattle.c_grammar.specs.Constants.{Names, with_tokens}
use Rattle.c_grammar.specs.Expressions.{placed_of}
use Rattle.c_grammar.specs.Lines.{is_omp}
use Rattle.c_grammar.specs.Presence.{before_end, is_target, no_clause, target_column}
use Rattle.c_grammar.specs.Updates.{is_combined}
use Rattle.c_grammar.specs.Moves.{all_moved, moved_names}
use Rattle.c_grammar.specs.Privates.{declared, noted, noted_item, owned, owned_by, owned_item, owned_lines, owned_tokens, shares}
use Rattle.c_grammar.proofs.BareMoves.{all_moved_bare}
use Rattle.c_grammar.proofs.BarePresence.{line_kept, omp_stays}
use Rattle.c_grammar.proofs.BareTokens.{IsBare, same_bare}

-- a directive line stays one
note_line : (b c d : Bool) (i : Item Terminal) (ts : List Lexeme) (ps : List Placed) → is_omp ts ≡ b →
    is_directive i.terminal ≡ b → is_directive (cond (b && c && d) (with_tokens i ts ps) i).terminal ≡ b
note_line true true true i ts ps e f = omp_stays i ts ps e
note_line true true false i ts ps e f = f
note_line true false d i ts ps e f = f
note_line false c d i ts ps e f = f

-- ---- clauses that are left out

item_kept : (i : Item Terminal) (t : Terminal) (is : Items) → i.terminal ≡ t →
    is_directive (owned_item i t is).terminal ≡ is_directive i.terminal
item_kept i (Line ts) is e =
    line_kept i ts (owned_tokens (declared [] 0 is) (placed_of ts i.columns)) (is_omp ts) (is_target ts) refl (ap is_directive e)
    ∙ sym (ap is_directive e)
item_kept i (Fixed w) is e = refl
item_kept i (Mark s) is e = refl
item_kept i (Name x) is e = refl
item_kept i (Num n) is e = refl
item_kept i Unknown is e = refl
item_kept i Unworked is e = refl
item_kept i End is e = refl

-- what is no directive line stays as it is
item_same : (i : Item Terminal) (t : Terminal) (is : Items) → is_directive t ≡ false → owned_item i t is ≡ i
item_same i (Line ts) is e = rw e refl
item_same i (Fixed w) is e = refl
item_same i (Mark s) is e = refl
item_same i (Name x) is e = refl
item_same i (Num n) is e = refl
item_same i Unknown is e = refl
item_same i Unworked is e = refl
item_same i End is e = refl

bare_owned : (is : Items) → bare (owned_lines is) ≡ bare is
bare_owned [] = refl
bare_owned (i ∷ is) = go (is_directive i.terminal) refl (item_kept i i.terminal (bare is) refl) (bare_owned is)
  where
    go : (b : Bool) → is_directive i.terminal ≡ b →
        is_directive (owned_item i i.terminal (bare is)).terminal ≡ is_directive i.terminal →
        bare (owned_lines is) ≡ bare is → bare (owned_lines (i ∷ is)) ≡ bare (i ∷ is)
    go true e k ih = rw (k ∙ e) (rw e ih)
    go false e k ih =
        rw (k ∙ e) (rw e (ap (λ (j : Item Terminal). j ∷ bare (owned_lines is)) (item_same i i.terminal (bare is) e)
        ∙ ap (λ (js : Items). i ∷ js) ih))

plain_owned : (is : Items) → owned_lines (bare is) ≡ bare is
plain_owned [] = refl
plain_owned (i ∷ is) = go (is_directive i.terminal) refl (plain_owned is)
  where
    go : (b : Bool) → is_directive i.terminal ≡ b → owned_lines (bare is) ≡ bare is →
        owned_lines (cond b (bare is) (i ∷ bare is)) ≡ cond b (bare is) (i ∷ bare is)
    go true e ih = ih
    go false e ih =
        ap (λ (j : Item Terminal). j ∷ owned_lines (bare is)) (item_same i i.terminal (bare (bare is)) e)
        ∙ ap (λ (js : Items). i ∷ js) ih

lines_bare : (is : Items) → IsBare (owned_lines (bare is)) (owned_lines is)
lines_bare is = plain_owned is ∙ sym (bare_owned is)

-- ---- lines that lack a clause

note_kept : (xs : Names) (i : Item Terminal) (t : Terminal) (is : Items) → i.terminal ≡ t →
    is_directive (noted_item xs i t is).terminal ≡ is_directive i.terminal
note_kept xs i (Line ts) is e =
    let ps : List Placed = placed_of ts i.columns in
    note_line (is_omp ts) (is_combined ts) (shares xs ts is) i ts (before_end (no_clause (target_column ps)) ps) refl (ap is_directive e)
    ∙ sym (ap is_directive e)
note_kept xs i (Fixed w) is e = refl
note_kept xs i (Mark s) is e = refl
note_kept xs i (Name x) is e = refl
note_kept xs i (Num n) is e = refl
note_kept xs i Unknown is e = refl
note_kept xs i Unworked is e = refl
note_kept xs i End is e = refl

note_same : (xs : Names) (i : Item Terminal) (t : Terminal) (is : Items) → is_directive t ≡ false → noted_item xs i t is ≡ i
note_same xs i (Line ts) is e = rw e refl
note_same xs i (Fixed w) is e = refl
note_same xs i (Mark s) is e = refl
note_same xs i (Name x) is e = refl
note_same xs i (Num n) is e = refl
note_same xs i Unknown is e = refl
note_same xs i Unworked is e = refl
note_same xs i End is e = refl

bare_noted : (xs : Names) (is : Items) → bare (noted xs is) ≡ bare is
bare_noted xs [] = refl
bare_noted xs (i ∷ is) =
    go (is_directive i.terminal) refl (note_kept xs i i.terminal (bare is) refl) (bare_noted xs is)
  where
    go : (b : Bool) → is_directive i.terminal ≡ b →
        is_directive (noted_item xs i i.terminal (bare is)).terminal ≡ is_directive i.terminal →
        bare (noted xs is) ≡ bare is → bare (noted xs (i ∷ is)) ≡ bare (i ∷ is)
    go true e k ih = rw (k ∙ e) (rw e ih)
    go false e k ih =
        rw (k ∙ e) (rw e (ap (λ (j : Item Terminal). j ∷ bare (noted xs is)) (note_same xs i i.terminal (bare is) e)
        ∙ ap (λ (js : Items). i ∷ js) ih))

plain_noted : (xs : Names) (is : Items) → noted xs (bare is) ≡ bare is
plain_noted xs [] = refl
plain_noted xs (i ∷ is) = go (is_directive i.terminal) refl (plain_noted xs is)
  where
    go : (b : Bool) → is_directive i.terminal ≡ b → noted xs (bare is) ≡ bare is →
        noted xs (cond b (bare is) (i ∷ bare is)) ≡ cond b (bare is) (i ∷ bare is)
    go true e ih = ih
    go false e ih =
        ap (λ (j : Item Terminal). j ∷ noted xs (bare is)) (note_same xs i i.terminal (bare (bare is)) e)
        ∙ ap (λ (js : Items). i ∷ js) ih

noted_bare : (xs : Names) (is : Items) → IsBare (noted xs (bare is)) (noted xs is)
noted_bare xs is = plain_noted xs is ∙ sym (bare_noted xs is)

-- ---- all of it

by_bare : (xs : Names) (is : Items) → IsBare (owned_by xs (bare is)) (owned_by xs is)
by_bare xs is =
    ap (λ (js : Items). owned_lines (all_moved xs js)) (noted_bare xs is)
    ∙ ap owned_lines (all_moved_bare xs (noted xs is))
    ∙ lines_bare (all_moved xs (noted xs is))

pub owned_bare : (is : Items) → IsBare (owned (bare is)) (owned is)
owned_bare is = ap (λ (js : Items). owned_by (moved_names js) (bare is)) (same_bare is) ∙ by_bare (moved_names (bare is)) is
