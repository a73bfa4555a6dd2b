-- What stands in a page for a text has no byte that begins or ends a tag or an attribute.
use Rattle.std.proofs.Common.{◌≡◌, ◌==◌, ◌++◌, ◌∙◌, ap, ℕ, Bool, true, false, not, ◌&&◌, ◌||◌, List, [], ◌∷◌, codes, flat_map, if◌then◌else◌, refl}
use Rattle.std.specs.List.{list_all}
use Rattle.std.proofs.lemmas.List.Folds.{list_all-append}
use Rattle.view.specs.Escaped.{IsHarmless, escape_of, is_harmless, is_no_text}

-- so it is for what stands for a byte
one : (is_text : Bool) (b : ℕ) → IsHarmless (escape_of is_text b)
one is_text b = go (b == 38) (b == 60) (b == 62) (b == 34) (b == 39) (is_no_text b is_text) refl refl refl refl
  where
    chosen : Bool → Bool → Bool → Bool → Bool → Bool → List ℕ
    chosen c0 c1 c2 c3 c4 c5 =
        if c0 then codes "&amp;"
        else (if c1 then codes "&lt;"
        else (if c2 then codes "&gt;"
        else (if c3 then codes "&quot;"
        else (if c4 then codes "&#39;"
        else (if c5 then codes "&#65533;"
        else b ∷ [])))))

    go : (c0 c1 c2 c3 c4 c5 : Bool) → (b == 60) ≡ c1 → (b == 62) ≡ c2 → (b == 34) ≡ c3 → (b == 39) ≡ c4 → IsHarmless (chosen c0 c1 c2 c3 c4 c5)
    go true c1 c2 c3 c4 c5 e1 e2 e3 e4 = refl
    go false true c2 c3 c4 c5 e1 e2 e3 e4 = refl
    go false false true c3 c4 c5 e1 e2 e3 e4 = refl
    go false false false true c4 c5 e1 e2 e3 e4 = refl
    go false false false false true c5 e1 e2 e3 e4 = refl
    go false false false false false true e1 e2 e3 e4 = refl
    go false false false false false false e1 e2 e3 e4 = rw e1 (rw e2 (rw e3 (rw e4 refl)))

both : (p q : Bool) → p ≡ true → q ≡ true → (p && q) ≡ true
both true true e f = refl
both true false e f = f
both false q e f = e

pub harmless : (is_text : Bool) (bytes : List ℕ) → IsHarmless (flat_map (escape_of is_text) bytes)
harmless is_text [] = refl
harmless is_text (b ∷ bytes) =
    list_all-append is_harmless (escape_of is_text b) (flat_map (escape_of is_text) bytes)
    ∙ both (list_all is_harmless (escape_of is_text b)) (list_all is_harmless (flat_map (escape_of is_text) bytes)) (one is_text b) (harmless is_text bytes)
