-- Clauses private are left out without a look at the lines of the tokens.
use Rattle.std.proofs.Common.{◌≡◌, ◌∙◌, ℕ, ◌+◌, ◌-◌, Bool, true, false, cond, List, [], ◌∷◌, refl, ap}
use Rattle.std.specs.Prelude.{◌&&◌, ◌||◌, ◌==◌, not}
use Rattle.c_tokens.specs.declared.kind.Sign.TheVariants as sign
use Rattle.c_grammar.specs.Lexeme.{Lexeme, Placed}
use Rattle.c_grammar.specs.Terminal.{Terminal, Fixed, Mark, Name, Num, Line, Unknown, Unworked, End, same}
use Rattle.c_grammar.specs.Texts.{Item}
use Rattle.c_grammar.specs.Blocks.{Items, bare}
use Rattle.c_grammar.specs.Changes.{is_mark}
use Rattle.c_grammar.specs.Constants.{Names, with_tokens}
use Rattle.c_grammar.specs.Expressions.{placed_of}
use Rattle.c_grammar.specs.Lines.{is_omp}
use Rattle.c_grammar.specs.Moves.{Before, Starts, all_moved, begins, behind, moved_names}
use Rattle.c_grammar.specs.Presence.{before_end, goes_on, is_target, no_clause, opens_part, target_column}
use Rattle.c_grammar.specs.Privates.{declared, is_private, noted, noted_item, owned, owned_by, owned_item, owned_lines, owned_tokens, region_on, sets, shares, with_declared}
use Rattle.c_grammar.specs.Updates.{is_combined}
use Rattle.same_text.specs.Laws.{unlined}
use Rattle.same_text.proofs.Unlined.{AreUnlined, all_unlined, bare_unlined}
use Rattle.same_text.proofs.UnlinedMoves.{all_moved_unlined, fresh_unlined, names_unlined}
use Rattle.same_text.proofs.UnlinedPresence.{goes_unlined, line_unlined, on_unlined as goes_on_unlined, same_if}

either : (b : Bool) (xs ys xs' ys' : Names) → xs' ≡ xs → ys' ≡ ys → cond b xs' ys' ≡ cond b xs ys
either true xs ys xs' ys' e f = e
either false xs ys xs' ys' e f = f

on_unlined : (d : ℕ) (i : Item Terminal) (is : Items) (xs : Names) (go go' : ℕ → Names) → ((k : ℕ) → go' k ≡ go k) →
    region_on d (unlined i) (all_unlined is) xs go' ≡ region_on d i is xs go
on_unlined d i is xs go go' r =
    either (opens_part i) _ _ _ _ (r (d + 1))
    (either (is_mark sign.CloseBrace i) _ _ _ _
    (ap (λ (b : Bool). cond b (go' (d - 1)) xs) (goes_unlined d is) ∙ either (goes_on d is) _ _ _ _ (r (d - 1)) refl)
    (either (is_mark sign.CloseParen i) _ _ _ _ (r (d - 1))
    (either (is_mark sign.Semicolon i && (d == 0)) _ _ _ _ refl (r d))))

one_unlined : (i : Item Terminal) (is : Items) (xs : Names) → with_declared (unlined i) (all_unlined is) xs ≡ with_declared i is xs
one_unlined i [] xs = refl
one_unlined i (j ∷ is) xs = refl

pub declared_unlined : (is : Items) (xs : Names) (d : ℕ) → declared xs d (all_unlined is) ≡ declared xs d is
declared_unlined [] xs d = refl
declared_unlined (i ∷ is) xs d =
    let ys : Names = with_declared i is xs in
    ap (λ (zs : Names). region_on d (unlined i) (all_unlined is) zs (λ k. declared zs k (all_unlined is))) (one_unlined i is xs)
    ∙ on_unlined d i is ys (λ k. declared ys k is) (λ k. declared ys k (all_unlined is)) (declared_unlined is ys)

item_unlined : (i : Item Terminal) (t : Terminal) (is : Items) →
    owned_item (unlined i) t (all_unlined is) ≡ unlined (owned_item i t is)
item_unlined i (Line ts) is =
    let ps : List Placed = placed_of ts i.columns in
    ap (λ (xs : Names). cond (is_omp ts && is_target ts) (with_tokens (unlined i) ts (owned_tokens xs ps)) (unlined i))
    (declared_unlined is [] 0)
    ∙ line_unlined i ts (owned_tokens (declared [] 0 is) ps) (is_omp ts && is_target ts)
item_unlined i (Fixed w) is = refl
item_unlined i (Mark s) is = refl
item_unlined i (Name x) is = refl
item_unlined i (Num n) is = refl
item_unlined i Unknown is = refl
item_unlined i Unworked is = refl
item_unlined i End is = refl

lines_unlined : (is : Items) → AreUnlined (owned_lines (all_unlined is)) (owned_lines is)
lines_unlined [] = refl
lines_unlined (i ∷ is) =
    ap (λ (js : Items). owned_item (unlined i) i.terminal js ∷ owned_lines (all_unlined is)) (bare_unlined is)
    ∙ ap (λ (j : Item Terminal). j ∷ owned_lines (all_unlined is)) (item_unlined i i.terminal (bare is))
    ∙ ap (λ (js : Items). unlined (owned_item i i.terminal (bare is)) ∷ js) (lines_unlined is)

-- ---- lines that lack a clause

sets_unlined : (x : List ℕ) (is : Items) (b : Before) (d : ℕ) → sets x b d (all_unlined is) ≡ sets x b d is
sets_unlined x [] b d = refl
sets_unlined x (i ∷ is) b d =
    same_if (same (Name x) i.terminal) _ _ _ _ (ap (λ (f : Bool). begins b && f) (fresh_unlined x is))
    (goes_on_unlined d i is (λ k. sets x (behind x b i) k is) (λ k. sets x (behind x b i) k (all_unlined is))
    (sets_unlined x is (behind x b i)))

shares_unlined : (xs : Names) (ts : List Lexeme) (is : Items) → shares xs ts (all_unlined is) ≡ shares xs ts is
shares_unlined [] ts is = refl
shares_unlined (x ∷ xs) ts is =
    ap (λ (b : Bool). (b && not (is_private x 0 false ts)) || shares xs ts (all_unlined is)) (sets_unlined x is Starts 0)
    ∙ ap (λ (b : Bool). (sets x Starts 0 is && not (is_private x 0 false ts)) || b) (shares_unlined xs ts is)

note_unlined : (xs : Names) (i : Item Terminal) (t : Terminal) (is : Items) →
    noted_item xs (unlined i) t (all_unlined is) ≡ unlined (noted_item xs i t is)
note_unlined xs i (Line ts) is =
    let ps : List Placed = placed_of ts i.columns in
    let new : List Placed = before_end (no_clause (target_column ps)) ps in
    ap (λ (b : Bool). cond (is_omp ts && is_combined ts && b) (with_tokens (unlined i) ts new) (unlined i))
    (shares_unlined xs ts is)
    ∙ line_unlined i ts new (is_omp ts && is_combined ts && shares xs ts is)
note_unlined xs i (Fixed w) is = refl
note_unlined xs i (Mark s) is = refl
note_unlined xs i (Name x) is = refl
note_unlined xs i (Num n) is = refl
note_unlined xs i Unknown is = refl
note_unlined xs i Unworked is = refl
note_unlined xs i End is = refl

noted_unlined : (xs : Names) (is : Items) → AreUnlined (noted xs (all_unlined is)) (noted xs is)
noted_unlined xs [] = refl
noted_unlined xs (i ∷ is) =
    ap (λ (js : Items). noted_item xs (unlined i) i.terminal js ∷ noted xs (all_unlined is)) (bare_unlined is)
    ∙ ap (λ (j : Item Terminal). j ∷ noted xs (all_unlined is)) (note_unlined xs i i.terminal (bare is))
    ∙ ap (λ (js : Items). unlined (noted_item xs i i.terminal (bare is)) ∷ js) (noted_unlined xs is)

-- ---- all of it

by_unlined : (xs : Names) (is : Items) → AreUnlined (owned_by xs (all_unlined is)) (owned_by xs is)
by_unlined xs is =
    ap (λ (js : Items). owned_lines (all_moved xs js)) (noted_unlined xs is)
    ∙ ap owned_lines (all_moved_unlined xs (noted xs is))
    ∙ lines_unlined (all_moved xs (noted xs is))

pub owned_unlined : (is : Items) → AreUnlined (owned (all_unlined is)) (owned is)
owned_unlined is =
    ap (λ (xs : Names). owned_by xs (all_unlined is)) (ap moved_names (bare_unlined is) ∙ names_unlined (bare is))
    ∙ by_unlined (moved_names (bare is)) is
