-- Clauses if are left out of directive lines alone, and with them directive lines alone.
use Rattle.std.proofs.Common.{◌≡◌, ◌∙◌, Bool, true, false, cond, List, [], ◌∷◌, ◌++◌, Option, Some, None, refl, sym, ap}
use Rattle.c_grammar.specs.Lexeme.{Lexeme, Placed}
use Rattle.c_grammar.specs.Terminal.{Terminal, Fixed, Mark, Name, Num, Line, Unknown, Unworked, End}
use Rattle.c_grammar.specs.Texts.{Item}
use Rattle.c_grammar.specs.Blocks.{Items, bare, is_directive}
use Rattle.c_grammar.specs.Expressions.{placed_of}
use Rattle.c_grammar.specs.Lines.{is_omp}
use Rattle.c_grammar.specs.Conditions.{decided, decided_item, line_outcome, put_outcome}
use Rattle.c_grammar.proofs.BarePresence.{omp_stays}
use Rattle.c_grammar.proofs.BareTokens.{IsBare, bare_both}

put_bare : (i : Item Terminal) (ts : List Lexeme) (o : Option (List Placed)) → is_omp ts ≡ true → bare (put_outcome i ts o) ≡ []
put_bare i ts None e = refl
put_bare i ts (Some ps) e = (let stays = omp_stays i ts ps e in rw stays refl)

-- a directive line
line_bare : (i : Item Terminal) (t : Terminal) (is : Items) → is_directive t ≡ true → bare (decided_item i t is) ≡ []
line_bare i (Line ts) is e = rw e (put_bare i ts (line_outcome (placed_of ts i.columns) ts is) e)
line_bare i (Fixed w) is e = absurd cc
line_bare i (Mark s) is e = absurd cc
line_bare i (Name x) is e = absurd cc
line_bare i (Num n) is e = absurd cc
line_bare i Unknown is e = absurd cc
line_bare i Unworked is e = absurd cc
line_bare i End is e = absurd cc

-- what is none stays as it is
same_item : (i : Item Terminal) (t : Terminal) (is : Items) → is_directive t ≡ false → decided_item i t is ≡ i ∷ []
same_item i (Line ts) is e = rw e refl
same_item i (Fixed w) is e = refl
same_item i (Mark s) is e = refl
same_item i (Name x) is e = refl
same_item i (Num n) is e = refl
same_item i Unknown is e = refl
same_item i Unworked is e = refl
same_item i End is e = refl

bare_decided : (is : Items) → bare (decided is) ≡ bare is
bare_decided [] = refl
bare_decided (i ∷ is) = go (is_directive i.terminal) refl (bare_decided is)
  where
    both : bare (decided (i ∷ is)) ≡ bare (decided_item i i.terminal (bare is)) ++ bare (decided is)
    both = bare_both (decided_item i i.terminal (bare is)) (decided is)

    go : (b : Bool) → is_directive i.terminal ≡ b → bare (decided is) ≡ bare is →
        bare (decided (i ∷ is)) ≡ cond b (bare is) (i ∷ bare is)
    go true e ih =
        both ∙ ap (λ (js : Items). js ++ bare (decided is)) (line_bare i i.terminal (bare is) e) ∙ ih
    go false e ih =
        let first : bare (i ∷ []) ≡ i ∷ [] = rw e refl in
        both ∙ ap (λ (js : Items). bare js ++ bare (decided is)) (same_item i i.terminal (bare is) e)
        ∙ ap (λ (js : Items). js ++ bare (decided is)) first ∙ ap (λ (js : Items). i ∷ js) ih

plain_decided : (is : Items) → decided (bare is) ≡ bare is
plain_decided [] = refl
plain_decided (i ∷ is) = go (is_directive i.terminal) refl (plain_decided is)
  where
    go : (b : Bool) → is_directive i.terminal ≡ b → decided (bare is) ≡ bare is →
        decided (cond b (bare is) (i ∷ bare is)) ≡ cond b (bare is) (i ∷ bare is)
    go true e ih = ih
    go false e ih =
        ap (λ (js : Items). js ++ decided (bare is)) (same_item i i.terminal (bare (bare is)) e)
        ∙ ap (λ (js : Items). i ∷ js) ih

pub decided_bare : (is : Items) → IsBare (decided (bare is)) (decided is)
decided_bare is = plain_decided is ∙ sym (bare_decided is)
