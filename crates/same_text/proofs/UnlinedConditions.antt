-- Clauses if are left out without a look at the lines of the tokens.
use Rattle.std.proofs.Common.{◌≡◌, ◌∙◌, ℕ, Bool, true, false, cond, List, [], ◌∷◌, ◌++◌, drop, Option, Some, None, refl, sym, ap}
use Rattle.std.specs.Prelude.{◌&&◌, ◌||◌, not}
use Rattle.c_grammar.specs.Lexeme.{Lexeme, Placed}
use Rattle.c_grammar.specs.Terminal.{Terminal, Fixed, Mark, Name, Num, Line, Unknown, Unworked, End}
use Rattle.c_grammar.specs.Texts.{Item}
use Rattle.c_grammar.specs.Blocks.{Items, bare}
use Rattle.c_grammar.specs.Conditions.{Clause, Heading, Target, are_idle, are_orderly, are_read, clauses, decided, decided_item, first_word, heading, is_counting, is_off, is_outer, is_region, is_same_region, is_set, kept, lexemes, line_outcome, outcome_for, put_outcome, sets_outer, with_words, words_len}
use Rattle.c_grammar.specs.Constants.{Names}
use Rattle.c_grammar.specs.Expressions.{placed_of}
use Rattle.c_grammar.specs.Lines.{is_omp}
use Rattle.c_grammar.specs.Presence.{uses_on}
use Rattle.c_grammar.specs.Privates.{declared}
use Rattle.c_grammar.specs.Updates.{begins_index}
use Rattle.same_text.specs.Laws.{unlined}
use Rattle.same_text.proofs.Unlined.{AreUnlined, all_unlined, bare_unlined, some}
use Rattle.same_text.proofs.UnlinedPresence.{on_unlined, same_if}
use Rattle.same_text.proofs.UnlinedPrivates.{declared_unlined}

-- ---- the region

set_unlined : (is : Items) → is_set (all_unlined is) ≡ is_set is
set_unlined [] = refl
set_unlined (i ∷ is) = refl

index_unlined : (is : Items) → begins_index (all_unlined is) ≡ begins_index is
index_unlined [] = refl
index_unlined (i ∷ is) = refl

sets_unlined : (is : Items) (xs : Names) (ts : List Lexeme) (b : Bool) (d : ℕ) →
    sets_outer xs ts b d (all_unlined is) ≡ sets_outer xs ts b d is
sets_unlined [] xs ts b d = refl
sets_unlined (i ∷ is) xs ts b d =
    let go : ℕ → Bool = λ k. sets_outer xs ts (is_counting i) k (all_unlined is) in
    ap (λ (s : Bool). cond (is_outer xs ts i.terminal && (s || (b && not (begins_index (all_unlined is))))) true (uses_on d (unlined i) (all_unlined is) go))
    (set_unlined is)
    ∙ ap (λ (s : Bool). cond (is_outer xs ts i.terminal && (is_set is || (b && not s))) true (uses_on d (unlined i) (all_unlined is) go)) (index_unlined is)
    ∙ same_if (is_outer xs ts i.terminal && (is_set is || (b && not (begins_index is)))) _ _ _ _ refl
    (on_unlined d i is (λ k. sets_outer xs ts (is_counting i) k is) go (sets_unlined is xs ts (is_counting i)))

region_unlined : (ts : List Lexeme) (is : Items) → is_same_region ts (all_unlined is) ≡ is_same_region ts is
region_unlined ts is =
    ap (λ (xs : Names). not (sets_outer xs ts false 0 (all_unlined is))) (declared_unlined is [] 0)
    ∙ ap not (sets_unlined is (declared [] 0 is) ts false 0)

-- ---- the line

for_unlined : (h : Heading) (ps : List Placed) (ts : List Lexeme) (is : Items) →
    outcome_for h ps ts (all_unlined is) ≡ outcome_for h ps ts is
for_unlined h ps ts is =
    let cs : List Clause = clauses h 0 0 (lexemes ps) in
    let qs : List Placed = kept h 0 0 ps in
    let others : List Lexeme = drop (words_len h) (lexemes qs) in
    ap (λ (b : Bool). cond (not (are_read cs)) (Some ps)
    (cond (not (is_off Target cs)) (Some qs)
    (cond (are_orderly h.parts cs && are_idle 0 others && (not (is_region h.own) || b)) None (Some ps))))
    (region_unlined ts is)

outcome_unlined : (ps : List Placed) (ts : List Lexeme) (is : Items) →
    line_outcome ps ts (all_unlined is) ≡ line_outcome ps ts is
outcome_unlined [] ts is = refl
outcome_unlined (p ∷ []) ts is = refl
outcome_unlined (p ∷ o ∷ ps) ts is =
    ap (λ (x : Option (List Placed)). cond (first_word ps) (with_words p o x) (Some (p ∷ o ∷ ps)))
    (for_unlined (heading (lexemes ps)) ps ts is)

put_unlined : (i : Item Terminal) (ts : List Lexeme) (b : Bool) (o : Option (List Placed)) →
    cond b (put_outcome (unlined i) ts o) (unlined i ∷ []) ≡ all_unlined (cond b (put_outcome i ts o) (i ∷ []))
put_unlined i ts true None = refl
put_unlined i ts true (Some ps) = refl
put_unlined i ts false o = refl

item_unlined : (i : Item Terminal) (t : Terminal) (is : Items) →
    AreUnlined (decided_item (unlined i) t (all_unlined is)) (decided_item i t is)
item_unlined i (Line ts) is =
    let ps : List Placed = placed_of ts i.columns in
    ap (λ (o : Option (List Placed)). cond (is_omp ts) (put_outcome (unlined i) ts o) (unlined i ∷ [])) (outcome_unlined ps ts is)
    ∙ put_unlined i ts (is_omp ts) (line_outcome ps ts is)
item_unlined i (Fixed w) is = refl
item_unlined i (Mark s) is = refl
item_unlined i (Name x) is = refl
item_unlined i (Num n) is = refl
item_unlined i Unknown is = refl
item_unlined i Unworked is = refl
item_unlined i End is = refl

pub decided_unlined : (is : Items) → AreUnlined (decided (all_unlined is)) (decided is)
decided_unlined [] = refl
decided_unlined (i ∷ is) =
    ap (λ (js : Items). decided_item (unlined i) i.terminal js ++ decided (all_unlined is)) (bare_unlined is)
    ∙ some (decided_item i i.terminal (bare is)) _ (decided is) _ (item_unlined i i.terminal (bare is)) (decided_unlined is)
