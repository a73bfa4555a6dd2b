-- The product of numbers at the front of some tokens.
use Rattle.std.proofs.Common.{◌≡◌, ◌∙◌, ℕ, zero, suc, ◌+◌, ◌-◌, ◌<◌, ◌≤◌, Bool, true, false, cond, not, List, [], ◌∷◌, length, get_or, take, drop, Option, Some, None, refl, sym, ap, arith}
use Rattle.std.specs.Prelude.{◌&&◌, ◌||◌, ◌==◌, nat_lt}
use Rattle.std.proofs.lemmas.Bool.{ltb-true, ltb-false, lt-ltb, cases_Bool}
use Rattle.std.proofs.lemmas.List.{take-map, take_all}
use Rattle.c_grammar.specs.Lexeme.{Lexeme, Placed}
use Rattle.c_grammar.specs.Expressions.{Values, Worked, Nothing, as_items, expression}
use Rattle.c_grammar.specs.LineForms.{ends_product, exactly, is_within, open_behind, product_at, product_len, product_of, put_word}
use Rattle.directives.specs.declared.lexeme.PlacedLexeme.{PlacedLexeme}
use Rattle.directives.specs.Seen.{seen_lexeme, seen_placed}
use Rattle.c_terminals.specs.declared.token.Token.{Token}
use Rattle.c_terminals.specs.Seen.{seen_all}
use Rattle.c_grammar.specs.Blocks.{bare}
use Rattle.c_written.specs.Lines.{unended}
use Rattle.c_written.specs.Forms.{all_placed}
use Rattle.c_written.proofs.Unending.{same_worked}

-- those behind the first
abbrev pub behind_first : List PlacedLexeme → List PlacedLexeme
behind_first ps = take (length ps - 1) (drop 1 ps)

front : (ps : List PlacedLexeme) (q : PlacedLexeme) → 1 ≤ length ps →
    all_placed ps ≡ seen_placed (get_or ps 0 q) ∷ all_placed (behind_first ps)
front [] q h = absurd (omega arith)
front (p ∷ ps) q h =
    ap (λ (qs : List PlacedLexeme). seen_placed p ∷ all_placed qs)
    (sym (take_all (length (p ∷ ps) - 1) ps (omega arith)))

module _ (vs : Values) (k : ℕ) (ps : List PlacedLexeme) (q : PlacedLexeme) (t : Lexeme) (h : 1 ≤ length ps)
    (w : t ≡ put_word vs (seen_lexeme (get_or ps 0 q).lexeme)) where
  pub product_ends : ends_product vs t (all_placed (behind_first ps)) ≡ true → product_len vs 0 k (all_placed ps) ≡ Some k
  product_ends e =
      ap (product_len vs 0 k) (front ps q h)
      ∙ rw (ap (λ (u : Lexeme). ends_product vs u (all_placed (behind_first ps))) (sym w) ∙ e) refl

  -- behind the first token, where the product does not end before it
  step : (d : ℕ) → ((d == 0) && ends_product vs t (all_placed (behind_first ps))) ≡ false →
      product_len vs d k (all_placed ps) ≡ cond (not (nat_lt d 16) || not (is_within t)) None
      (product_len vs (open_behind d t) (k + 1) (all_placed (behind_first ps)))
  step d e =
      ap (product_len vs d k) (front ps q h)
      ∙ rw (ap (λ (u : Lexeme). (d == 0) && ends_product vs u (all_placed (behind_first ps))) (sym w) ∙ e)
      (ap (λ (u : Lexeme). cond (not (nat_lt d 16) || not (is_within u)) None
      (product_len vs (open_behind d u) (k + 1) (all_placed (behind_first ps)))) (sym w))

  pub product_stops : (d : ℕ) → ((d == 0) && ends_product vs t (all_placed (behind_first ps))) ≡ false →
      (not (nat_lt d 16) || not (is_within t)) ≡ true → product_len vs d k (all_placed ps) ≡ None
  product_stops d e f = step d e ∙ rw f refl

  pub product_goes : (d : ℕ) → ((d == 0) && ends_product vs t (all_placed (behind_first ps))) ≡ false →
      (not (nat_lt d 16) || not (is_within t)) ≡ false →
      product_len vs d k (all_placed ps) ≡ product_len vs (open_behind d t) (k + 1) (all_placed (behind_first ps))
  product_goes d e f = step d e ∙ rw f refl

-- no product, or that of the first tokens
pub product_none : (vs : Values) (ps : List PlacedLexeme) → None ≡ product_len vs 0 0 (all_placed ps) →
    None ≡ product_at vs (all_placed ps)
product_none vs ps e = ap (product_of vs (all_placed ps)) e

pub product_read : (vs : Values) (ps : List PlacedLexeme) (k : ℕ) (ts : List Token) (w : Option Worked) →
    Some k ≡ product_len vs 0 0 (all_placed ps) → seen_all ts ≡ unended (as_items 0 (all_placed (take k ps))) →
    w ≡ expression vs false Nothing [] 0 (bare (seen_all ts)) → exactly k w ≡ product_at vs (all_placed ps)
product_read vs ps k ts w e f g =
    ap (exactly k) (g ∙ same_worked vs false 0 (all_placed (take k ps)) ts f)
    ∙ ap (λ (qs : List Placed). exactly k (expression vs false Nothing [] 0 (as_items 0 qs))) (sym (take-map seen_placed k ps))
    ∙ ap (λ (o : Option ℕ). product_of vs (all_placed ps) o) e
