-- A directive line whose clauses are read, one token after another.
use Rattle.std.proofs.Common.{◌≡◌, ◌∙◌, ℕ, zero, suc, ◌-◌, ◌<◌, ◌≤◌, List, [], ◌∷◌, ◌++◌, length, refl, sym, ap, arith}
use Rattle.std.proofs.lemmas.List.{append-nil}
use Rattle.c_grammar.specs.Lexeme.{Placed}
use Rattle.c_grammar.specs.Clauses.{Scope, Place, Step, clauses_from, put_step, step_at}
use Rattle.directives.specs.declared.lexeme.PlacedLexeme.{PlacedLexeme}
use Rattle.c_written.specs.declared.clauses.Clauses.{Clauses}
use Rattle.c_written.specs.Clauses.{behind, seen_place, seen_scope, with_clauses}
use Rattle.c_written.specs.Forms.{all_placed}

clauses_end : (s : Scope) (at : Place) (k : ℕ) → clauses_from s at k [] ≡ []
unfolding clauses_from
clauses_end s at k = refl

clauses_left : (s : Scope) (at : Place) (k : ℕ) (p : Placed) (ps : List Placed) → 0 < k →
    clauses_from s at k (p ∷ ps) ≡ clauses_from s at (k - 1) ps
unfolding clauses_from
clauses_left s at zero p ps h = absurd (omega arith)
clauses_left s at (suc k) p ps h =
    let less : k ≡ suc k - 1 = omega arith in ap (λ (n : ℕ). clauses_from s at n ps) less

clauses_now : (s : Scope) (at : Place) (k : ℕ) (p : Placed) (ps : List Placed) → k ≤ 0 →
    clauses_from s at k (p ∷ ps) ≡ put_step s at p (step_at s at (p ∷ ps)) (behind s ps)
unfolding clauses_from
clauses_now s at zero p ps h = refl
clauses_now s at (suc k) p ps h = absurd (omega arith)

abbrev rest : Clauses → ℕ → List Placed → List Placed
rest c k ps = clauses_from (seen_scope c.scope) (seen_place c.place) k ps

pub took_left : (c : Clauses) (p : Placed) (rs ps : List Placed) → rs ≡ p ∷ ps → 0 < c.left →
    with_clauses c rs ≡ all_placed c.done.items ++ rest c (c.left - 1) ps
took_left c p rs ps e h = ap (λ (qs : List Placed). all_placed c.done.items ++ qs)
    (ap (rest c c.left) e ∙ clauses_left _ _ _ p ps h)

-- by what becomes of the token
pub took_step : (c : Clauses) (p : Placed) (rs ps : List Placed) (q : Step) → rs ≡ p ∷ ps → c.left ≤ 0 →
    q ≡ step_at (seen_scope c.scope) (seen_place c.place) rs →
    with_clauses c rs ≡ all_placed c.done.items ++
    put_step (seen_scope c.scope) (seen_place c.place) p q (behind (seen_scope c.scope) ps)
took_step c p rs ps q e h f =
    ap (λ (qs : List Placed). all_placed c.done.items ++ qs)
    (ap (rest c c.left) e ∙ clauses_now _ _ _ p ps h
    ∙ ap (λ (x : Step). put_step (seen_scope c.scope) (seen_place c.place) p x (behind (seen_scope c.scope) ps))
    (ap (λ (qs : List Placed). step_at (seen_scope c.scope) (seen_place c.place) qs) (sym e) ∙ sym f))

pub clauses_done : (c : Clauses) (rs : List PlacedLexeme) (qs : List Placed) → length rs < 1 →
    with_clauses c (all_placed rs) ≡ qs → all_placed c.done.items ≡ qs
clauses_done c [] qs h e = sym (append-nil (all_placed c.done.items))
    ∙ ap (λ (ps : List Placed). all_placed c.done.items ++ ps) (sym (clauses_end _ _ _)) ∙ e
clauses_done c (r ∷ rs) qs h e = absurd (omega arith)
