-- That arrays are present is said on directive lines alone.
use Rattle.std.proofs.Common.{◌≡◌, ◌∙◌, Bool, true, false, cond, List, [], ◌∷◌, refl, sym, ap}
use Rattle.std.specs.Prelude.{◌&&◌}
use Rattle.c_grammar.specs.Lexeme.{Lexeme, Placed}
use Rattle.c_grammar.specs.Terminal.{Terminal, Fixed, Mark, Name, Num, Line, Unknown, Unworked, End}
use Rattle.c_grammar.specs.Texts.{Item}
use Rattle.c_grammar.specs.Blocks.{Items, bare, is_directive}
use Rattle.c_grammar.specs.Constants.{Names, with_tokens}
use Rattle.c_grammar.specs.Expressions.{placed_of}
use Rattle.c_grammar.specs.Lines.{is_omp}
use Rattle.c_grammar.specs.Presence.{guarded, guarded_item, guarded_tokens}

pub omp_stays : (i : Item Terminal) (ts : List Lexeme) (ps : List Placed) → is_omp ts ≡ true →
    is_directive (with_tokens i ts ps).terminal ≡ true
unfolding is_omp
omp_stays i [] ps e = absurd cc
omp_stays i (t ∷ []) ps e = absurd cc
omp_stays i (t ∷ u ∷ ts) ps e = e

-- the line of a target stays a directive line
pub line_kept : (i : Item Terminal) (ts : List Lexeme) (ps : List Placed) (b c : Bool) → is_omp ts ≡ b → is_directive i.terminal ≡ b →
    is_directive (cond (b && c) (with_tokens i ts ps) i).terminal ≡ b
line_kept i ts ps true true e f = omp_stays i ts ps e
line_kept i ts ps true false e f = f
line_kept i ts ps false c e f = f

-- so does any
pub omp_kept : (i : Item Terminal) (ts : List Lexeme) (ps : List Placed) (b : Bool) → is_omp ts ≡ b → is_directive i.terminal ≡ b →
    is_directive (cond b (with_tokens i ts ps) i).terminal ≡ b
omp_kept i ts ps true e f = omp_stays i ts ps e
omp_kept i ts ps false e f = f

item_kept : (names : Names) (i : Item Terminal) (t : Terminal) (is : Items) → i.terminal ≡ t →
    is_directive (guarded_item names i t is).terminal ≡ is_directive i.terminal
item_kept names i (Line ts) is e =
    omp_kept i ts (guarded_tokens names ts is (placed_of ts i.columns)) (is_omp ts) refl (ap is_directive e)
    ∙ sym (ap is_directive e)
item_kept names i (Fixed w) is e = refl
item_kept names i (Mark s) is e = refl
item_kept names i (Name x) is e = refl
item_kept names i (Num n) is e = refl
item_kept names i Unknown is e = refl
item_kept names i Unworked is e = refl
item_kept names i End is e = refl

-- and what is none stays as it is
item_same : (names : Names) (i : Item Terminal) (t : Terminal) (is : Items) → is_directive t ≡ false → guarded_item names i t is ≡ i
item_same names i (Line ts) is e = rw e refl
item_same names i (Fixed w) is e = refl
item_same names i (Mark s) is e = refl
item_same names i (Name x) is e = refl
item_same names i (Num n) is e = refl
item_same names i Unknown is e = refl
item_same names i Unworked is e = refl
item_same names i End is e = refl

pub bare_guarded : (names : Names) (is : Items) → bare (guarded names is) ≡ bare is
bare_guarded names [] = refl
bare_guarded names (i ∷ is) =
    go (is_directive i.terminal) refl (item_kept names i i.terminal (bare is) refl) (bare_guarded names is)
  where
    go : (b : Bool) → is_directive i.terminal ≡ b → is_directive (guarded_item names i i.terminal (bare is)).terminal ≡ is_directive i.terminal →
        bare (guarded names is) ≡ bare is → bare (guarded names (i ∷ is)) ≡ bare (i ∷ is)
    go true e k ih = rw (k ∙ e) (rw e ih)
    go false e k ih =
        rw (k ∙ e) (rw e (ap (λ (j : Item Terminal). j ∷ bare (guarded names is)) (item_same names i i.terminal (bare is) e)
        ∙ ap (λ (js : Items). i ∷ js) ih))

plain_guarded : (names : Names) (is : Items) → guarded names (bare is) ≡ bare is
plain_guarded names [] = refl
plain_guarded names (i ∷ is) = go (is_directive i.terminal) refl (plain_guarded names is)
  where
    go : (b : Bool) → is_directive i.terminal ≡ b → guarded names (bare is) ≡ bare is →
        guarded names (cond b (bare is) (i ∷ bare is)) ≡ cond b (bare is) (i ∷ bare is)
    go true e ih = ih
    go false e ih =
        ap (λ (j : Item Terminal). j ∷ guarded names (bare is)) (item_same names i i.terminal (bare (bare is)) e)
        ∙ ap (λ (js : Items). i ∷ js) ih

pub guarded_bare : (names : Names) (is : Items) → guarded names (bare is) ≡ bare (guarded names is)
guarded_bare names is = plain_guarded names is ∙ sym (bare_guarded names is)
