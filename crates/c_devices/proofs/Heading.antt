-- The tokens of a head.
use Rattle.std.proofs.Common.{◌≡◌, ◌∙◌, ◌<◌, ◌≤◌, ℕ, List, [], ◌∷◌, length, Option, None, refl, get_or, arith}
use Rattle.c_grammar.specs.Devices.{loop_in, loop_of}
use Rattle.c_grammar.specs.Initial.{value_of}
use Rattle.c_grammar.specs.Triangles.{name_of}
use Rattle.c_terminals.specs.declared.token.Token.{Token}
use Rattle.c_terminals.specs.Seen.{seen_all, seen_terminal}

-- a head has thirteen tokens at least
pub too_short : (ts : List Token) → length ts < 13 → loop_in (seen_all ts) ≡ None
too_short [] z = refl
too_short (a ∷ []) z = refl
too_short (a ∷ b ∷ []) z = refl
too_short (a ∷ b ∷ c ∷ []) z = refl
too_short (a ∷ b ∷ c ∷ d ∷ []) z = refl
too_short (a ∷ b ∷ c ∷ d ∷ e ∷ []) z = refl
too_short (a ∷ b ∷ c ∷ d ∷ e ∷ f ∷ []) z = refl
too_short (a ∷ b ∷ c ∷ d ∷ e ∷ f ∷ g ∷ []) z = refl
too_short (a ∷ b ∷ c ∷ d ∷ e ∷ f ∷ g ∷ h ∷ []) z = refl
too_short (a ∷ b ∷ c ∷ d ∷ e ∷ f ∷ g ∷ h ∷ i ∷ []) z = refl
too_short (a ∷ b ∷ c ∷ d ∷ e ∷ f ∷ g ∷ h ∷ i ∷ j ∷ []) z = refl
too_short (a ∷ b ∷ c ∷ d ∷ e ∷ f ∷ g ∷ h ∷ i ∷ j ∷ k ∷ []) z = refl
too_short (a ∷ b ∷ c ∷ d ∷ e ∷ f ∷ g ∷ h ∷ i ∷ j ∷ k ∷ l ∷ []) z = refl
too_short (a ∷ b ∷ c ∷ d ∷ e ∷ f ∷ g ∷ h ∷ i ∷ j ∷ k ∷ l ∷ m ∷ ts) z = absurd (omega (arith, z))

-- the name, the first number, the limit and the step stand at their places
places : (ts : List Token) (x y z w : Token) → 13 ≤ length ts →
    loop_of (name_of (seen_terminal (get_or ts 2 x).terminal)) (value_of (seen_terminal (get_or ts 4 y).terminal))
    (value_of (seen_terminal (get_or ts 8 z).terminal)) (value_of (seen_terminal (get_or ts 12 w).terminal))
    ≡ loop_in (seen_all ts)
places [] x y z w more = absurd (omega (arith, more))
places (a ∷ []) x y z w more = absurd (omega (arith, more))
places (a ∷ b ∷ []) x y z w more = absurd (omega (arith, more))
places (a ∷ b ∷ c ∷ []) x y z w more = absurd (omega (arith, more))
places (a ∷ b ∷ c ∷ d ∷ []) x y z w more = absurd (omega (arith, more))
places (a ∷ b ∷ c ∷ d ∷ e ∷ []) x y z w more = absurd (omega (arith, more))
places (a ∷ b ∷ c ∷ d ∷ e ∷ f ∷ []) x y z w more = absurd (omega (arith, more))
places (a ∷ b ∷ c ∷ d ∷ e ∷ f ∷ g ∷ []) x y z w more = absurd (omega (arith, more))
places (a ∷ b ∷ c ∷ d ∷ e ∷ f ∷ g ∷ h ∷ []) x y z w more = absurd (omega (arith, more))
places (a ∷ b ∷ c ∷ d ∷ e ∷ f ∷ g ∷ h ∷ i ∷ []) x y z w more = absurd (omega (arith, more))
places (a ∷ b ∷ c ∷ d ∷ e ∷ f ∷ g ∷ h ∷ i ∷ j ∷ []) x y z w more = absurd (omega (arith, more))
places (a ∷ b ∷ c ∷ d ∷ e ∷ f ∷ g ∷ h ∷ i ∷ j ∷ k ∷ []) x y z w more = absurd (omega (arith, more))
places (a ∷ b ∷ c ∷ d ∷ e ∷ f ∷ g ∷ h ∷ i ∷ j ∷ k ∷ l ∷ []) x y z w more = absurd (omega (arith, more))
places (a ∷ b ∷ c ∷ d ∷ e ∷ f ∷ g ∷ h ∷ i ∷ j ∷ k ∷ l ∷ m ∷ ts) x y z w more = refl

pub head_of : (ts : List Token) (x y z w : Token) (n : Option (List ℕ)) (first end step : Option ℕ) → 13 ≤ length ts →
    x ≡ get_or ts 2 x → y ≡ get_or ts 4 y → z ≡ get_or ts 8 z → w ≡ get_or ts 12 w →
    n ≡ name_of (seen_terminal x.terminal) → first ≡ value_of (seen_terminal y.terminal) →
    end ≡ value_of (seen_terminal z.terminal) → step ≡ value_of (seen_terminal w.terminal) →
    loop_of n first end step ≡ loop_in (seen_all ts)
head_of ts x y z w n first end step more e₁ e₂ e₃ e₄ e₅ e₆ e₇ e₈ =
    (λ k. loop_of (e₅ k) (e₆ k) (e₇ k) (e₈ k))
    ∙ (λ k. loop_of (name_of (seen_terminal (e₁ k).terminal)) (value_of (seen_terminal (e₂ k).terminal))
    (value_of (seen_terminal (e₃ k).terminal)) (value_of (seen_terminal (e₄ k).terminal)))
    ∙ places ts x y z w more
