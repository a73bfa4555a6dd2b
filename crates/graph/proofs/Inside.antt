-- What stands in a string of DOT for a text does not end it, and has no end of a line.
use Rattle.std.proofs.Common.{◌≡◌, ◌==◌, ◌++◌, ◌∙◌, ap, ℕ, Bool, true, false, not, ◌&&◌, ◌||◌, List, [], ◌∷◌, codes, flat_map, if◌then◌else◌, refl, sym, subst, Some}
use Rattle.std.specs.Prelude.{◌↔◌, Result, Ok, Err}
use Rattle.std.specs.List.{list_all}
use Rattle.std.specs.Result.{MatchResult, is_ok}
use Rattle.std.proofs.lemmas.Bool.{both_ways, eqb-true}
use Rattle.std.proofs.lemmas.List.{append_assoc}
use Rattle.std.proofs.lemmas.List.Folds.{list_all-append}
use Rattle.graph.specs.Escaped.{IsOneLine, StaysInside, behind_string, escape_of, is_in_line, is_no_text}

-- so it is for what stands for a byte
one_inside : (is_text : Bool) (b : ℕ) → StaysInside (escape_of is_text b)
one_inside is_text b rest = go (b == 34) (b == 92) (b == 38) (is_no_text b is_text) refl refl
  where
    chosen : Bool → Bool → Bool → Bool → List ℕ
    chosen c0 c1 c2 c3 =
        if c0 then 92 ∷ 34 ∷ []
        else (if c1 then 92 ∷ 92 ∷ []
        else (if c2 then codes "&amp;"
        else (if c3 then 239 ∷ 191 ∷ 189 ∷ []
        else b ∷ [])))

    go : (c0 c1 c2 c3 : Bool) → (b == 34) ≡ c0 → (b == 92) ≡ c1 →
        behind_string false (chosen c0 c1 c2 c3 ++ rest) ≡ behind_string false rest
    go true c1 c2 c3 e0 e1 = refl
    go false true c2 c3 e0 e1 = refl
    go false false true c3 e0 e1 = refl
    go false false false true e0 e1 = refl
    go false false false false e0 e1 = rw e0 (rw e1 refl)

pub inside : (is_text : Bool) (bytes : List ℕ) → StaysInside (flat_map (escape_of is_text) bytes)
inside is_text [] rest = refl
inside is_text (b ∷ bytes) rest =
    ap (behind_string false) (append_assoc (escape_of is_text b) (flat_map (escape_of is_text) bytes) rest)
    ∙ one_inside is_text b (flat_map (escape_of is_text) bytes ++ rest)
    ∙ inside is_text bytes rest

-- ---- lines

shown_in_line : (is_text : Bool) (b : ℕ) → is_no_text b is_text ≡ false → is_in_line b ≡ true
shown_in_line is_text b shown = go (b == 10) (b == 13) refl refl
  where
    is_none : (k : ℕ) → b ≡ k → is_no_text k is_text ≡ true → ⊥
    is_none k e none = both_ways (is_no_text b is_text) shown (subst (λ n. is_no_text n is_text ≡ true) (sym e) none)

    go : (c d : Bool) → (b == 10) ≡ c → (b == 13) ≡ d → not (c || d) ≡ true
    go true d e f = absurd (is_none 10 (eqb-true b 10 e) refl)
    go false true e f = absurd (is_none 13 (eqb-true b 13 f) refl)
    go false false e f = refl

one_line_of : (is_text : Bool) (b : ℕ) → IsOneLine (escape_of is_text b)
one_line_of is_text b = go (b == 34) (b == 92) (b == 38) (is_no_text b is_text) refl
  where
    chosen : Bool → Bool → Bool → Bool → List ℕ
    chosen c0 c1 c2 c3 =
        if c0 then 92 ∷ 34 ∷ []
        else (if c1 then 92 ∷ 92 ∷ []
        else (if c2 then codes "&amp;"
        else (if c3 then 239 ∷ 191 ∷ 189 ∷ []
        else b ∷ [])))

    go : (c0 c1 c2 c3 : Bool) → is_no_text b is_text ≡ c3 → IsOneLine (chosen c0 c1 c2 c3)
    go true c1 c2 c3 e = refl
    go false true c2 c3 e = refl
    go false false true c3 e = refl
    go false false false true e = refl
    go false false false false e = rw (shown_in_line is_text b e) refl

both : (p q : Bool) → p ≡ true → q ≡ true → (p && q) ≡ true
both true true e f = refl
both true false e f = f
both false q e f = e

pub one_line : (is_text : Bool) (bytes : List ℕ) → IsOneLine (flat_map (escape_of is_text) bytes)
one_line is_text [] = refl
one_line is_text (b ∷ bytes) =
    list_all-append is_in_line (escape_of is_text b) (flat_map (escape_of is_text) bytes)
    ∙ both (list_all is_in_line (escape_of is_text b)) (list_all is_in_line (flat_map (escape_of is_text) bytes))
    (one_line_of is_text b) (one_line is_text bytes)

-- ---- whether the bytes are UTF-8

pub is_text : {X E : Type 0} (r : Result X E) (P : Type 0) (A : X → Type 0) (B : E → Type 0) →
    MatchResult r (λ x. A x × P) (λ e. (P → ⊥) × B e) → (is_ok r ≡ true) ↔ P
is_text (Ok x) P A B h = (λ e. h.1, λ p. refl)
is_text (Err e) P A B h = (λ t. absurd cc, λ p. absurd (h.0 p))

-- ---- between quotation marks

pub is_string : (inner rest : List ℕ) → StaysInside inner → behind_string false ((inner ++ 34 ∷ []) ++ rest) ≡ Some rest
is_string inner rest stays = ap (behind_string false) (append_assoc inner (34 ∷ []) rest) ∙ stays (34 ∷ rest)
