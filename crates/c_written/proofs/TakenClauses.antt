-- Reduction clauses that are taken out of a line.
use Rattle.std.proofs.Common.{◌≡◌, ◌∙◌, ◌<◌, ◌≤◌, ℕ, zero, suc, ◌-◌, Bool, true, false, List, [], ◌∷◌, length, take, drop, Option, Some, None, refl, sym, ap, arith}
use Rattle.std.proofs.lemmas.List.{take_all}
use Rattle.c_grammar.specs.Lexeme.{Lexeme, Placed}
use Rattle.c_grammar.specs.Blocks.{Items}
use Rattle.c_grammar.specs.Updates.{Reduction, all_mapped, clause_on, reduced, reduction_at, taken_at}
use Rattle.directives.specs.declared.lexeme.PlacedLexeme.{PlacedLexeme}
use Rattle.directives.specs.Seen.{seen_placed}
use Rattle.c_written.specs.Forms.{all_placed}
use Rattle.c_written.specs.Spots.{all_kinds}

pub no_reduction : (ts : List PlacedLexeme) → length ts < 4 → None ≡ reduction_at (all_kinds ts)
no_reduction [] h = refl
no_reduction (a ∷ []) h = refl
no_reduction (a ∷ b ∷ []) h = refl
no_reduction (a ∷ b ∷ c ∷ []) h = refl
no_reduction (a ∷ b ∷ c ∷ d ∷ ts) h = absurd (omega (arith, h))

-- a clause of which the arrays are mapped is left out
pub left_out : (ts : List Lexeme) (is : Items) (k l : ℕ) (us : List PlacedLexeme) (r : Reduction) → 1 ≤ length us → k ≤ 0 →
    Some r ≡ taken_at ts is (all_kinds us) → all_mapped r.names ts ≡ true → l ≡ r.len - 1 →
    reduced ts is l (all_placed (take (length us - 1) (drop 1 us))) ≡ reduced ts is k (all_placed us)
left_out ts is k l [] r h z f m e = absurd (omega (arith, h))
left_out ts is (suc k) l (u ∷ us) r h z f m e = absurd (omega (arith, z))
left_out ts is zero l (u ∷ us) r h z f m e =
    let few : length us ≤ length (u ∷ us) - 1 = omega arith in
    let go : ℕ → List Placed = λ k. reduced ts is k (all_placed us) in
    let out : clause_on ts (seen_placed u) (Some r) go ≡ go (r.len - 1) = rw m refl in
    ap (λ (vs : List PlacedLexeme). reduced ts is l (all_placed vs)) (take_all (length (u ∷ us) - 1) us few)
    ∙ ap go e ∙ sym out
    ∙ ap (λ (o : Option Reduction). clause_on ts (seen_placed u) o go) f
