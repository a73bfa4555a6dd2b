-- How many tokens a clause has, one name after another.
use Rattle.std.proofs.Common.{◌≡◌, ◌∙◌, ℕ, zero, suc, ◌+◌, ◌-◌, ◌<◌, ◌≤◌, Bool, true, false, List, [], ◌∷◌, length, get_or, take, drop, Option, Some, None, refl, sym, ap, arith}
use Rattle.std.specs.Prelude.{IfSome}
use Rattle.std.proofs.lemmas.List.{take_all, length-map}
use Rattle.c_tokens.specs.declared.kind.Sign.TheVariants as sign
use Rattle.c_grammar.specs.Lexeme.{Lexeme}
use Rattle.c_grammar.specs.LineForms.{is_sign}
use Rattle.c_grammar.specs.Clauses.{Scope, clause_len, idle_len, list_len, may_stand, names_len, with_comma}
use Rattle.directives.specs.declared.lexeme.PlacedLexeme.{PlacedLexeme}
use Rattle.directives.specs.Seen.{seen_lexeme, seen_placed}
use Rattle.c_written.specs.Forms.{all_placed}
use Rattle.c_written.proofs.WholeClauses.{list_within}

pub two_less : (rs : List PlacedLexeme) → 2 ≤ length rs → length (take (length rs - 2) (drop 2 rs)) ≡ length rs - 2
two_less [] h = absurd (omega arith)
two_less (r ∷ []) h = absurd (omega arith)
two_less (r ∷ s ∷ rs) h =
    let all : take (length (r ∷ s ∷ rs) - 2) rs ≡ rs = take_all (length (r ∷ s ∷ rs) - 2) rs (omega arith) in
    let less : length rs ≡ length (r ∷ s ∷ rs) - 2 = omega arith in
    ap (λ (us : List PlacedLexeme). length us) all ∙ less

-- a name and the comma behind it
pub names_next : (s : Scope) (scalar : Bool) (k : ℕ) (rs : List PlacedLexeme) (d e : PlacedLexeme) → 2 ≤ length rs →
    may_stand s scalar (seen_lexeme (get_or rs 0 d).lexeme) ≡ true →
    is_sign sign.CloseParen (seen_lexeme (get_or rs 1 e).lexeme) ≡ false →
    is_sign sign.Comma (seen_lexeme (get_or rs 1 e).lexeme) ≡ true →
    names_len s scalar k (all_placed rs) ≡ names_len s scalar (k + 2) (all_placed (take (length rs - 2) (drop 2 rs)))
names_next s scalar k [] d e h a b c = absurd (omega arith)
names_next s scalar k (r ∷ []) d e h a b c = absurd (omega arith)
names_next s scalar k (r ∷ t ∷ rs) d e h a b c =
    let all : take (length (r ∷ t ∷ rs) - 2) rs ≡ rs = take_all (length (r ∷ t ∷ rs) - 2) rs (omega arith) in
    rw (a, b, c) (ap (λ (us : List PlacedLexeme). names_len s scalar (k + 2) (all_placed us)) (sym all))

pub clause_short : (s : Scope) (rs : List PlacedLexeme) → length rs < 2 → clause_len s (all_placed rs) ≡ None
clause_short s [] h = refl
clause_short s (r ∷ []) h = refl
clause_short s (r ∷ t ∷ rs) h = absurd (omega arith)

-- by its word, with the tokens behind its bracket
pub list_fits : (s : Scope) (t : Lexeme) (rs : List PlacedLexeme) (o : Option ℕ) → 2 ≤ length rs →
    o ≡ list_len s t (all_placed (take (length rs - 2) (drop 2 rs))) → IfSome o (λ k. k + 1 ≤ length rs)
list_fits s t rs None h e = tt
list_fits s t rs (Some k) h e =
    let few = list_within s t (all_placed (take (length rs - 2) (drop 2 rs))) k (sym e) in
    omega (arith, few, h, two_less rs h, length-map (take (length rs - 2) (drop 2 rs)) seen_placed)

take_none : (n : ℕ) → take {A = PlacedLexeme} n [] ≡ []
take_none zero = refl
take_none (suc n) = refl

pub behind : (k : ℕ) (rs : List PlacedLexeme) → drop k (all_placed rs) ≡ all_placed (take (length rs - k) (drop k rs))
behind zero [] = ap all_placed (sym (take_none (length {A = PlacedLexeme} [] - 0)))
behind (suc k) [] = ap all_placed (sym (take_none (length {A = PlacedLexeme} [] - suc k)))
behind zero (r ∷ rs) =
    let all : take (length (r ∷ rs) - 0) (r ∷ rs) ≡ r ∷ rs = take_all (length (r ∷ rs) - 0) (r ∷ rs) (omega arith) in
    ap all_placed (sym all)
behind (suc k) (r ∷ rs) =
    let less : length rs - k ≡ length (r ∷ rs) - suc k = omega arith in
    behind k rs ∙ ap (λ (n : ℕ). all_placed (take n (drop k rs))) less

-- what is behind the clause says how many tokens go with it
pub idle_some : (s : Scope) (rs : List PlacedLexeme) (k : ℕ) (o : Option ℕ) → Some k ≡ clause_len s (all_placed rs) →
    o ≡ with_comma k (all_placed (take (length rs - (k + 1)) (drop (k + 1) rs))) → o ≡ idle_len s (all_placed rs)
idle_some s rs k o e f = f ∙ ap (with_comma k) (sym (behind (k + 1) rs)) ∙ rw (sym e) refl

pub idle_none : (s : Scope) (rs : List PlacedLexeme) → None ≡ clause_len s (all_placed rs) → None ≡ idle_len s (all_placed rs)
idle_none s rs e = rw (sym e) refl
