-- How many cells are left behind the first bound of a section.
use Rattle.std.proofs.Common.{◌≡◌, ◌∙◌, ℕ, zero, suc, ◌<◌, Bool, cond, List, [], ◌∷◌, length, map, Option, Some, None, refl, ap, arith}
use Rattle.c_grammar.specs.Lexeme.{Lexeme, Worded, Numbered}
use Rattle.c_grammar.specs.Expressions.{Values, value_of}
use Rattle.c_grammar.specs.LineForms.{cells_from, rest_of}
use Rattle.directives.specs.declared.lexeme.Lexeme.{Lexeme as Given}
use Rattle.directives.specs.Seen.{seen_lexeme}
use Rattle.c_written.specs.Stack.{item_at}
use Rattle.c_written.specs.Forms.{begins_rest, name_in, number_in}

-- the same of a number and a name, if they are some
abbrev by_parts : Values → Lexeme → Option ℕ → Lexeme → Option (List ℕ) → List Lexeme
by_parts ls c (Some l) o (Some x) = cond (begins_rest c o) (cells_from l (value_of ls x)) []
by_parts ls c _ o _ = []

in_parts : (ls : Values) (c t o u : Lexeme) (ts : List Lexeme) →
    rest_of ls (c ∷ t ∷ o ∷ u ∷ ts) ≡ by_parts ls c (number_in t) o (name_in u)
in_parts ls c (Numbered (Some l)) o (Worded x) ts = refl
in_parts ls c (Numbered (Some l)) o u ts = refl
in_parts ls c (Numbered None) o u ts = refl
in_parts ls c t o u ts = refl

too_short : (ls : Values) (ts : List Lexeme) → length ts < 4 → rest_of ls ts ≡ []
too_short ls [] h = refl
too_short ls (c ∷ []) h = refl
too_short ls (c ∷ Numbered (Some l) ∷ []) h = refl
too_short ls (c ∷ Numbered None ∷ []) h = refl
too_short ls (c ∷ t ∷ []) h = refl
too_short ls (c ∷ Numbered (Some l) ∷ o ∷ []) h = refl
too_short ls (c ∷ Numbered None ∷ o ∷ []) h = refl
too_short ls (c ∷ t ∷ o ∷ []) h = refl
too_short ls (c ∷ t ∷ o ∷ u ∷ ts) h = absurd (omega arith)

no_parts : (ls : Values) (c : Lexeme) (l : Option ℕ) (o : Lexeme) → by_parts ls c l o None ≡ []
no_parts ls c (Some l) o = refl
no_parts ls c None o = refl

-- something is missing
pub rest_none : (ls : Values) (k : ℕ) (xs : List Given) → k < 4 → item_at k xs ≡ None → rest_of ls (map seen_lexeme xs) ≡ []
rest_none ls k [] h e = refl
rest_none ls k (c ∷ []) h e = refl
rest_none ls k (c ∷ t ∷ []) h e = too_short ls (seen_lexeme c ∷ seen_lexeme t ∷ []) (omega arith)
rest_none ls k (c ∷ t ∷ o ∷ []) h e = too_short ls (seen_lexeme c ∷ seen_lexeme t ∷ seen_lexeme o ∷ []) (omega arith)
rest_none ls zero (c ∷ t ∷ o ∷ u ∷ ts) h e = absurd cc
rest_none ls (suc zero) (c ∷ t ∷ o ∷ u ∷ ts) h e = absurd cc
rest_none ls (suc (suc zero)) (c ∷ t ∷ o ∷ u ∷ ts) h e = absurd cc
rest_none ls (suc (suc (suc zero))) (c ∷ t ∷ o ∷ u ∷ ts) h e = absurd cc
rest_none ls (suc (suc (suc (suc k)))) (c ∷ t ∷ o ∷ u ∷ ts) h e = absurd (omega arith)

pub rest_unnumbered : (ls : Values) (xs : List Given) (y : Given) → item_at 1 xs ≡ Some y → number_in (seen_lexeme y) ≡ None →
    rest_of ls (map seen_lexeme xs) ≡ []
rest_unnumbered ls [] y e n = refl
rest_unnumbered ls (c ∷ []) y e n = refl
rest_unnumbered ls (c ∷ t ∷ []) y e n = too_short ls (seen_lexeme c ∷ seen_lexeme t ∷ []) (omega arith)
rest_unnumbered ls (c ∷ t ∷ o ∷ []) y e n =
    too_short ls (seen_lexeme c ∷ seen_lexeme t ∷ seen_lexeme o ∷ []) (omega arith)
rest_unnumbered ls (c ∷ t ∷ o ∷ u ∷ ts) y e n =
    let same : t ≡ y = cc in
    in_parts ls (seen_lexeme c) (seen_lexeme t) (seen_lexeme o) (seen_lexeme u) (map seen_lexeme ts)
    ∙ ap (λ (l : Option ℕ). by_parts ls (seen_lexeme c) l (seen_lexeme o) (name_in (seen_lexeme u)))
    (ap (λ (z : Given). number_in (seen_lexeme z)) same ∙ n)

pub rest_unnamed : (ls : Values) (xs : List Given) (y : Given) → item_at 3 xs ≡ Some y → name_in (seen_lexeme y) ≡ None →
    rest_of ls (map seen_lexeme xs) ≡ []
rest_unnamed ls [] y e n = refl
rest_unnamed ls (c ∷ []) y e n = refl
rest_unnamed ls (c ∷ t ∷ []) y e n = absurd cc
rest_unnamed ls (c ∷ t ∷ o ∷ []) y e n = absurd cc
rest_unnamed ls (c ∷ t ∷ o ∷ u ∷ ts) y e n =
    let same : u ≡ y = cc in
    in_parts ls (seen_lexeme c) (seen_lexeme t) (seen_lexeme o) (seen_lexeme u) (map seen_lexeme ts)
    ∙ ap (by_parts ls (seen_lexeme c) (number_in (seen_lexeme t)) (seen_lexeme o))
    (ap (λ (z : Given). name_in (seen_lexeme z)) same ∙ n)
    ∙ no_parts ls (seen_lexeme c) (number_in (seen_lexeme t)) (seen_lexeme o)

-- nothing is missing
pub rest_some : (ls : Values) (xs : List Given) (a b c d : Given) (l : ℕ) (x : List ℕ) (y : Bool) → item_at 0 xs ≡ Some a →
    item_at 1 xs ≡ Some b → item_at 2 xs ≡ Some c → item_at 3 xs ≡ Some d → number_in (seen_lexeme b) ≡ Some l →
    name_in (seen_lexeme d) ≡ Some x → begins_rest (seen_lexeme a) (seen_lexeme c) ≡ y →
    rest_of ls (map seen_lexeme xs) ≡ cond y (cells_from l (value_of ls x)) []
rest_some ls [] a b c d l x y e f g h m n k = absurd cc
rest_some ls (p ∷ []) a b c d l x y e f g h m n k = absurd cc
rest_some ls (p ∷ q ∷ []) a b c d l x y e f g h m n k = absurd cc
rest_some ls (p ∷ q ∷ r ∷ []) a b c d l x y e f g h m n k = absurd cc
rest_some ls (p ∷ q ∷ r ∷ s ∷ ts) a b c d l x y e f g h m n k =
    let first : p ≡ a = cc in
    let second : q ≡ b = cc in
    let third : r ≡ c = cc in
    let fourth : s ≡ d = cc in
    in_parts ls (seen_lexeme p) (seen_lexeme q) (seen_lexeme r) (seen_lexeme s) (map seen_lexeme ts)
    ∙ ap (λ (z : Option ℕ). by_parts ls (seen_lexeme p) z (seen_lexeme r) (name_in (seen_lexeme s)))
    (ap (λ (z : Given). number_in (seen_lexeme z)) second ∙ m)
    ∙ ap (λ (z : Option (List ℕ)). by_parts ls (seen_lexeme p) (Some l) (seen_lexeme r) z)
    (ap (λ (z : Given). name_in (seen_lexeme z)) fourth ∙ n)
    ∙ ap (λ (z : Bool). cond z (cells_from l (value_of ls x)) [])
    (ap (λ (z : Given). begins_rest (seen_lexeme z) (seen_lexeme r)) first
    ∙ ap (λ (z : Given). begins_rest (seen_lexeme a) (seen_lexeme z)) third ∙ k)
