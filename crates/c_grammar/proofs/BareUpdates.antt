-- Lines that say of updates that they commute are directive lines, and nothing else changes.
use Rattle.std.proofs.Common.{◌≡◌, ◌∙◌, Bool, true, false, cond, List, [], ◌∷◌, refl, sym, ap}
use Rattle.std.specs.Prelude.{◌&&◌}
use Rattle.c_grammar.specs.Lexeme.{Lexeme, Placed}
use Rattle.c_grammar.specs.Terminal.{Terminal, Fixed, Mark, Name, Num, Line, Unknown, Unworked, End}
use Rattle.c_grammar.specs.Texts.{Item}
use Rattle.c_grammar.specs.Blocks.{Items, bare, is_directive}
use Rattle.c_grammar.specs.Constants.{with_tokens}
use Rattle.c_grammar.specs.Expressions.{placed_of}
use Rattle.c_grammar.specs.Lines.{is_omp}
use Rattle.c_grammar.specs.Updates.{Region, Outside, Inside, OnRegion, atomic_tokens, behind, commuting, directive_on, has_extreme, has_update, is_atomic, is_changed, is_combined, is_compare, line_on, mark_at, marked, reduced, summed}
use Rattle.c_grammar.proofs.BarePresence.{omp_stays}

mark_is_line : (i : Item Terminal) → is_directive (mark_at i).terminal ≡ true
unfolding is_omp
mark_is_line i = refl

-- what follows is the same without directive lines
abbrev Keeps : Items → OnRegion → Type 0
Keeps is go = (r : Region) → bare (go r) ≡ bare is

line_bare : (i : Item Terminal) (ts : List Lexeme) (is : Items) (r : Region) (go : OnRegion) → i.terminal ≡ Line ts →
    is_directive i.terminal ≡ true → is_omp ts ≡ true → Keeps is go → bare (line_on i ts is r go) ≡ bare is
line_bare i ts is r go e f h k = first (is_combined ts)
  where
    put : (ps : List Placed) (q : Region) → bare (with_tokens i ts ps ∷ go q) ≡ bare is
    put ps q = rw (omp_stays i ts ps h) (k q)

    third : (b : Bool) → bare (cond b (with_tokens i ts (atomic_tokens true (placed_of ts i.columns)) ∷ go r) (i ∷ go r)) ≡ bare is
    third true = put (atomic_tokens true (placed_of ts i.columns)) r
    third false = rw f (k r)

    second : (b : Bool) → bare
        (cond b (with_tokens i ts (atomic_tokens (has_update (bare is)) (placed_of ts i.columns)) ∷ go r)
        (cond (is_compare ts && has_extreme is) (with_tokens i ts (atomic_tokens true (placed_of ts i.columns)) ∷ go r) (i ∷ go r)))
        ≡ bare is
    second true = put (atomic_tokens (has_update (bare is)) (placed_of ts i.columns)) r
    second false = third (is_compare ts && has_extreme is)

    first : (b : Bool) → bare
        (cond b (with_tokens i ts (reduced ts is 0 (placed_of ts i.columns)) ∷ go (Inside (summed ts is ts) 0 false))
        (cond (is_atomic ts) (with_tokens i ts (atomic_tokens (has_update (bare is)) (placed_of ts i.columns)) ∷ go r)
        (cond (is_compare ts && has_extreme is) (with_tokens i ts (atomic_tokens true (placed_of ts i.columns)) ∷ go r) (i ∷ go r))))
        ≡ bare is
    first true = put (reduced ts is 0 (placed_of ts i.columns)) (Inside (summed ts is ts) 0 false)
    first false = second (is_atomic ts)

directive_bare : (i : Item Terminal) (t : Terminal) (is : Items) (r : Region) (go : OnRegion) → i.terminal ≡ t →
    is_directive t ≡ true → Keeps is go → bare (directive_on i t is r go) ≡ bare is
directive_bare i (Line ts) is r go e f k = line_bare i ts is r go e (ap is_directive e ∙ f) f k
directive_bare i (Fixed w) is r go e f k = absurd cc
directive_bare i (Mark s) is r go e f k = absurd cc
directive_bare i (Name x) is r go e f k = absurd cc
directive_bare i (Num n) is r go e f k = absurd cc
directive_bare i Unknown is r go e f k = absurd cc
directive_bare i Unworked is r go e f k = absurd cc
directive_bare i End is r go e f k = absurd cc

marked_bare : (r : Region) (i : Item Terminal) (is : Items) (go : OnRegion) → is_directive i.terminal ≡ false → Keeps is go →
    bare (marked r i is go) ≡ i ∷ bare is
marked_bare Outside i is go f k = rw f (ap (λ (js : Items). i ∷ js) (k Outside))
marked_bare (Inside xs d starts) i is go f k = step (starts && is_changed xs i is)
  where
    same : bare (i ∷ go (behind xs d i is)) ≡ i ∷ bare is
    same = rw f (ap (λ (js : Items). i ∷ js) (k (behind xs d i is)))

    step : (b : Bool) → bare (cond b (mark_at i ∷ i ∷ go (behind xs d i is)) (i ∷ go (behind xs d i is))) ≡ i ∷ bare is
    step true = rw (mark_is_line i) same
    step false = same

bare_commuting : (is : Items) (r : Region) → bare (commuting r is) ≡ bare is
bare_commuting [] r = refl
bare_commuting (i ∷ is) r = go (is_directive i.terminal) refl (λ r. bare_commuting is r)
  where
    go : (b : Bool) → is_directive i.terminal ≡ b → Keeps is (λ r. commuting r is) →
        bare (commuting r (i ∷ is)) ≡ bare (i ∷ is)
    go true e ih = rw e (directive_bare i i.terminal is r (λ r. commuting r is) refl e ih)
    go false e ih = rw e (marked_bare r i is (λ r. commuting r is) e ih)

plain_commuting : (is : Items) → commuting Outside (bare is) ≡ bare is
plain_commuting [] = refl
plain_commuting (i ∷ is) = go (is_directive i.terminal) refl (plain_commuting is)
  where
    go : (b : Bool) → is_directive i.terminal ≡ b → commuting Outside (bare is) ≡ bare is →
        commuting Outside (cond b (bare is) (i ∷ bare is)) ≡ cond b (bare is) (i ∷ bare is)
    go true e ih = ih
    go false e ih = rw e (ap (λ (js : Items). i ∷ js) ih)

pub commuting_bare : (is : Items) → commuting Outside (bare is) ≡ bare (commuting Outside is)
commuting_bare is = plain_commuting is ∙ sym (bare_commuting is Outside)
