-- Lines that lack a clause get one, and no other token is looked at.
use Rattle.std.proofs.Common.{◌≡◌, ◌∙◌, Bool, true, false, cond, List, [], ◌∷◌, refl, sym, ap}
use Rattle.std.specs.Prelude.{◌&&◌}
use Rattle.c_grammar.specs.Lexeme.{Lexeme, Placed}
use Rattle.c_grammar.specs.Terminal.{Terminal, Fixed, Mark, Name, Num, Line, Unknown, Unworked, End}
use Rattle.c_grammar.specs.Texts.{Item}
use Rattle.c_grammar.specs.Blocks.{Items, bare, is_directive}
use Rattle.c_grammar.specs.Boxes.{boxes_of}
use Rattle.c_grammar.specs.Constants.{with_tokens}
use Rattle.c_grammar.specs.Expressions.{placed_of}
use Rattle.c_grammar.specs.Lines.{is_omp}
use Rattle.c_grammar.specs.Presence.{before_end, is_target, no_clause, target_column}
use Rattle.c_grammar.specs.Shared.{all_kept, apart, awaited, block_arrays, copies_at, marked, marked_at, shares_at, unshared, waits_at}
use Rattle.c_grammar.proofs.BarePresence.{omp_stays}
use Rattle.c_grammar.proofs.BareTokens.{IsBare, same_bare}

-- a directive line stays one
line_stays : (b c d : Bool) (i : Item Terminal) (ts : List Lexeme) (ps : List Placed) → is_omp ts ≡ b →
    is_directive i.terminal ≡ b → is_directive (cond (b && (c && d)) (with_tokens i ts ps) i).terminal ≡ b
line_stays true true true i ts ps e f = omp_stays i ts ps e
line_stays true true false i ts ps e f = f
line_stays true false d i ts ps e f = f
line_stays false c d i ts ps e f = f

mark_kept : (b : Bool) (i : Item Terminal) (t : Terminal) → i.terminal ≡ t →
    is_directive (marked_at b i t).terminal ≡ is_directive i.terminal
mark_kept b i (Line ts) e =
    let ps : List Placed = placed_of ts i.columns in
    line_stays (is_omp ts) (is_target ts) b i ts (before_end (no_clause (target_column ps)) ps) refl (ap is_directive e)
    ∙ sym (ap is_directive e)
mark_kept b i (Fixed w) e = refl
mark_kept b i (Mark s) e = refl
mark_kept b i (Name x) e = refl
mark_kept b i (Num n) e = refl
mark_kept b i Unknown e = refl
mark_kept b i Unworked e = refl
mark_kept b i End e = refl

-- what is no directive line stays as it is
mark_same : (b : Bool) (i : Item Terminal) (t : Terminal) → is_directive t ≡ false → marked_at b i t ≡ i
mark_same b i (Line ts) e = rw e refl
mark_same b i (Fixed w) e = refl
mark_same b i (Mark s) e = refl
mark_same b i (Name x) e = refl
mark_same b i (Num n) e = refl
mark_same b i Unknown e = refl
mark_same b i Unworked e = refl
mark_same b i End e = refl

module _ (f : Terminal → Items → Bool) where
  bare_marked : (is : Items) → bare (marked f is) ≡ bare is
  bare_marked [] = refl
  bare_marked (i ∷ is) =
      go (is_directive i.terminal) refl (mark_kept (f i.terminal (bare is)) i i.terminal refl) (bare_marked is)
    where
      go : (b : Bool) → is_directive i.terminal ≡ b →
          is_directive (marked_at (f i.terminal (bare is)) i i.terminal).terminal ≡ is_directive i.terminal →
          bare (marked f is) ≡ bare is → bare (marked f (i ∷ is)) ≡ bare (i ∷ is)
      go true e k ih = rw (k ∙ e) (rw e ih)
      go false e k ih =
          rw (k ∙ e) (rw e (ap (λ (j : Item Terminal). j ∷ bare (marked f is)) (mark_same (f i.terminal (bare is)) i i.terminal e)
          ∙ ap (λ (js : Items). i ∷ js) ih))

  plain_marked : (is : Items) → marked f (bare is) ≡ bare is
  plain_marked [] = refl
  plain_marked (i ∷ is) = go (is_directive i.terminal) refl (plain_marked is)
    where
      go : (b : Bool) → is_directive i.terminal ≡ b → marked f (bare is) ≡ bare is →
          marked f (cond b (bare is) (i ∷ bare is)) ≡ cond b (bare is) (i ∷ bare is)
      go true e ih = ih
      go false e ih =
          ap (λ (j : Item Terminal). j ∷ marked f (bare is)) (mark_same (f i.terminal (bare (bare is))) i i.terminal e)
          ∙ ap (λ (js : Items). i ∷ js) ih

  marked_bare : (is : Items) → IsBare (marked f (bare is)) (marked f is)
  marked_bare is = plain_marked is ∙ sym (bare_marked is)

pub unshared_bare : (is : Items) → IsBare (unshared (bare is)) (unshared is)
unshared_bare is = marked_bare shares_at is

pub awaited_bare : (is : Items) → IsBare (awaited (bare is)) (awaited is)
awaited_bare is =
    ap (λ (js : Items). marked (waits_at (block_arrays 0 [] js)) (bare is)) (same_bare is)
    ∙ marked_bare (waits_at (block_arrays 0 [] (bare is))) is

pub apart_bare : (is : Items) → IsBare (apart (bare is)) (apart is)
apart_bare is =
    plain_marked (copies_at (boxes_of (bare is)) (all_kept (bare is) [])) is
    ∙ sym (bare_marked (copies_at (boxes_of is) (all_kept is [])) is)
