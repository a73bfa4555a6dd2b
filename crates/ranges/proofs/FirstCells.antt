-- The first cell of an array at which a test holds, after arrays in which it holds nowhere.
use Rattle.std.proofs.Common.{◌≡◌, ℕ, ◌+◌, ◌<◌, ◌≤◌, Bool, true, false, Some, sym, ap, ◌∙◌, arith, ⊎_elim}
use Rattle.std.proofs.lemmas.Bool.{cases_lt, cases_eq, true≢false}
use Rattle.std.proofs.lemmas.Bool.Decides.{nat_tests}
use Rattle.base.specs.declared.item.Cell.{Cell}
use Rattle.bits.specs.Sets.{IsFirstAt}
use Rattle.base.specs.Least.{is_less}

not_before : (c : Cell) (a i : ℕ) → a < c.array.0 → is_less c (record { array = record { 0 = a }; index = i }) ≡ false
not_before c a i h = grind (arith, nat_tests)

not_earlier : (c : Cell) (a i : ℕ) → c.array.0 ≡ a → i ≤ c.index → is_less c (record { array = record { 0 = a }; index = i }) ≡ false
not_earlier c a i e h = grind (arith, nat_tests)

module _ (test : Cell → Bool) (a : ℕ) (row : ℕ → Bool)
    (is : (j : ℕ) → row j ≡ test (record { array = record { 0 = a }; index = j }))
    (below : (c : Cell) → c.array.0 < a → test c ≡ false) where
  in_row : (c : Cell) → c.array.0 ≡ a → row c.index ≡ test c
  in_row c e = is c.index ∙ ap (λ k. test (record { array = record { 0 = k }; index = c.index })) (sym e)

  pub least_in_row : (i : ℕ) → IsFirstAt row (Some i) → (test (record { array = record { 0 = a }; index = i }) ≡ true)
      × ((c : Cell) → test c ≡ true → is_less c (record { array = record { 0 = a }; index = i }) ≡ false)
  least_in_row i first = (sym (is i) ∙ first.0, least)
    where
      least : (c : Cell) → test c ≡ true → is_less c (record { array = record { 0 = a }; index = i }) ≡ false
      least c t =
          ⊎_elim (λ (h : c.array.0 < a). absurd (true≢false (sym t ∙ below c h)))
          (λ (h : a ≤ c.array.0). ⊎_elim
          (λ (e : c.array.0 ≡ a). ⊎_elim
          (λ (l : c.index < i). absurd (true≢false (sym t ∙ sym (in_row c e) ∙ first.1 c.index l)))
          (λ (l : i ≤ c.index). not_earlier c a i e l) (cases_lt c.index i))
          (λ differs. not_before c a i (omega arith)) (cases_eq c.array.0 a))
          (cases_lt c.array.0 a)

  pub none_in_row : ((j : ℕ) → row j ≡ false) → (c : Cell) → c.array.0 < a + 1 → test c ≡ false
  none_in_row none c h =
      ⊎_elim (λ (l : c.array.0 < a). below c l)
      (λ (l : a ≤ c.array.0). sym (in_row c (omega arith)) ∙ none c.index) (cases_lt c.array.0 a)
