-- Bounds, an operand after another.
use Rattle.std.proofs.Common.{◌≡◌, ◌∙◌, ℕ, suc, ◌-◌, ◌≤◌, Bool, true, false, cond, List, [], ◌∷◌, length, get_or, take, drop, Option, Some, None, refl, sym, ap, arith}
use Rattle.std.proofs.lemmas.List.{take_all}
use Rattle.c_tokens.specs.declared.kind.Sign.TheVariants as sign
use Rattle.c_grammar.specs.Terminal.{Terminal}
use Rattle.c_grammar.specs.Texts.{Item}
use Rattle.c_grammar.specs.Blocks.{Items}
use Rattle.c_grammar.specs.Constants.{is_mark}
use Rattle.c_grammar.specs.Triangles.{Bound, Open, adds, bound_from, on_bound, operand, with_operand}
use Rattle.c_terminals.specs.declared.token.Token.{Token}
use Rattle.c_terminals.specs.Seen.{seen, seen_all}
use Rattle.c_triangles.specs.Bounds.{next_bound}

pub first_two : (ts : List Token) (t u : Token) → 2 ≤ length ts → t ≡ get_or ts 0 t → u ≡ get_or ts 1 u →
    seen_all ts ≡ seen t ∷ seen u ∷ seen_all (take (length ts - 2) (drop 2 ts))
first_two [] t u h e f = absurd (omega arith)
first_two (a ∷ []) t u h e f = absurd (omega arith)
first_two (a ∷ b ∷ ts) t u h e f = λ k.
    seen (sym e k) ∷ seen (sym f k) ∷ seen_all (sym (take_all (suc (suc (length ts)) - 2) ts (omega arith)) k)

pub bound_goes : (os : List Open) (b c : Bound) (o i : Item Terminal) (is js : Items) (r : Option Bound) → js ≡ o ∷ i ∷ is →
    Some c ≡ next_bound os b o i → bound_from os b js ≡ r → bound_from os c is ≡ r
bound_goes os b c o i is js r e f h =
    ap (λ (x : Option Bound). on_bound x (λ c. bound_from os c is)) f ∙ sym (step (adds o)) ∙ ap (bound_from os b) (sym e) ∙ h
  where
    step : (t : Bool) →
        cond t (on_bound (with_operand (is_mark sign.Minus o) b (operand os i.terminal)) (λ c. bound_from os c is)) None
        ≡ on_bound (cond t (with_operand (is_mark sign.Minus o) b (operand os i.terminal)) None) (λ c. bound_from os c is)
    step true = refl
    step false = refl
