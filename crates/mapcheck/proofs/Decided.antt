-- Of two items the one is before the other, or is not.
use Rattle.std.proofs.Common.{◌≡◌, ℕ, zero, suc, ◌<◌, Bool, true, false, refl, sym, ap, ◌∙◌, subst, inl, inr, ◌⊎◌, ⊎_elim, arith}
use Rattle.std.proofs.lemmas.Bool.{cases_eq}
use Rattle.base.specs.Items.{Plan}
use Rattle.base.specs.Order.{Before, through}
use Rattle.order.proofs.Befores.{LastStep, at_both, last_step, led, leads_to}

abbrev pub Decided : Type 0 → Type 0
Decided P = P ⊎ (P → ⊥)

-- a last step to item j, from an item below m
record StepBelow (plan : Plan) (i j m : ℕ) : Type 0 where
  from : ℕ
  below : from < m
  leads : at_both plan from j leads_to ≡ true
  reached : (i ≡ from) ⊎ Before plan i from

one_less : (plan : Plan) (i j m : ℕ) (s : StepBelow plan i j (suc m)) → (s.from ≡ m → ⊥) → StepBelow plan i j m
one_less plan i j m s other =
    record { from = s.from; below = omega (arith, s.below, other); leads = s.leads; reached = s.reached }

one_more : (plan : Plan) (i j m : ℕ) → StepBelow plan i j m → StepBelow plan i j (suc m)
one_more plan i j m s =
    record { from = s.from; below = omega (arith, s.below); leads = s.leads; reached = s.reached }

last_one : (plan : Plan) (i j m : ℕ) → Decided (Before plan i m) → (b : Bool) → at_both plan m j leads_to ≡ b →
    (StepBelow plan i j m → ⊥) → Decided (StepBelow plan i j (suc m))
last_one plan i j m d false e none = inr (λ (s : StepBelow plan i j (suc m)).
    ⊎_elim
    (λ (is : s.from ≡ m).
    let bad : true ≡ false = sym s.leads ∙ ap (λ k. at_both plan k j leads_to) is ∙ e in absurd cc)
    (λ (other : s.from ≡ m → ⊥). none (one_less plan i j m s other)) (cases_eq s.from m))
last_one plan i j m d true e none = ⊎_elim
    (λ (is : i ≡ m). inl (record { from = m; below = omega arith; leads = e; reached = inl is }))
    (λ (differs : i ≡ m → ⊥). ⊎_elim
    (λ (b : Before plan i m). inl (record { from = m; below = omega arith; leads = e; reached = inr b }))
    (λ (not_before : Before plan i m → ⊥). inr (λ (s : StepBelow plan i j (suc m)).
    ⊎_elim
    (λ (is : s.from ≡ m). ⊎_elim (λ (same : i ≡ s.from). differs (same ∙ is))
    (λ (b : Before plan i s.from). not_before (subst (λ k. Before plan i k) is b)) s.reached)
    (λ (other : s.from ≡ m → ⊥). none (one_less plan i j m s other)) (cases_eq s.from m))) d)
    (cases_eq i m)

step_below : (plan : Plan) (i j m : ℕ) → ((k : ℕ) → k < m → Decided (Before plan i k)) → Decided (StepBelow plan i j m)
step_below plan i j zero d = inr (λ (s : StepBelow plan i j 0). absurd (omega (arith, s.below)))
step_below plan i j (suc m) d = ⊎_elim (λ (s : StepBelow plan i j m). inl (one_more plan i j m s))
    (λ (none : StepBelow plan i j m → ⊥). last_one plan i j m (d m (omega arith)) (at_both plan m j leads_to) refl none)
    (step_below plan i j m (λ k lt. d k (omega arith)))

stepped : (plan : Plan) (i j : ℕ) → StepBelow plan i j j → Before plan i j
stepped plan i j s =
    let last : Before plan s.from j = led plan s.from j (record { earlier = s.below; leads = s.leads }) in
    ⊎_elim (λ (same : i ≡ s.from). subst (λ k. Before plan k j) (sym same) last)
    (λ (b : Before plan i s.from). through i s.from j b last) s.reached

unstepped : (plan : Plan) (i j : ℕ) → LastStep plan i j → StepBelow plan i j j
unstepped plan i j last =
    record { from = last.from; below = last.leads.earlier; leads = last.leads.leads; reached = last.reached }

decided_below : (plan : Plan) (i n j : ℕ) → j < n → Decided (Before plan i j)
decided_below plan i zero j lt = absurd (omega arith)
decided_below plan i (suc n) j lt = ⊎_elim (λ (s : StepBelow plan i j j). inl (stepped plan i j s))
    (λ (none : StepBelow plan i j j → ⊥). inr (λ (b : Before plan i j). none (unstepped plan i j (last_step plan i j b))))
    (step_below plan i j j (λ k le. decided_below plan i n k (omega arith)))

pub before_decided : (plan : Plan) (i j : ℕ) → Decided (Before plan i j)
before_decided plan i j = decided_below plan i (suc j) j (omega arith)
