-- An open item that is not deferred has the host at it, after each event.
use Rattle.std.proofs.Common.{◌≡◌, ℕ, Bool, true, false, Some, None, refl, sym, ap, ◌∙◌}
use Rattle.std.specs.Prelude.{◌==◌, ◌&&◌, ◌||◌, not, if◌then◌else◌, slice_get}
use Rattle.std.proofs.lemmas.Bool.{and_parts, eqb-true, eq-eqb, true≢false}
use Rattle.base.specs.Items.{Plan, Work}
use Rattle.base.specs.declared.item.Event.TheVariants.{Open}
use Rattle.base.specs.Machine.{is_open, is_ready, is_wait, is_waiting}
use Rattle.fine_machine.specs.Machine.{State, Condition, as_whole, enabled, whole_condition}
use Rattle.stepper.specs.Standing.{IsHere}

-- where the condition of one item changes
pub here_after : (plan : Plan) (s : State) (place i : ℕ) (c : Condition) → IsHere plan s →
    ((w : Work) → slice_get plan.items i ≡ Some w → w.deferred ≡ false → is_open (whole_condition c) ≡ true → place ≡ i) →
    ((j : ℕ) → (j == i) ≡ false → s.place ≡ j → place ≡ j) →
    (j : ℕ) (w : Work) → slice_get plan.items j ≡ Some w → w.deferred ≡ false →
    is_open (whole_condition (if j == i then c else s.condition j)) ≡ true → place ≡ j
here_after plan s place i c here own others j w is now open_there = go (j == i) refl open_there
  where
    go : (b : Bool) → (j == i) ≡ b → is_open (whole_condition (if b then c else s.condition j)) ≡ true → place ≡ j
    go true e o =
        let same = eqb-true j i e in
        own w (ap (λ k. slice_get plan.items k) (sym same) ∙ is) now o ∙ sym same
    go false e o = others j e (here j w is now o)

-- no other item has the host at it
pub only_here : {A : Type 0} (s : State) (i j : ℕ) → s.place ≡ i → (j == i) ≡ false → s.place ≡ j → A
only_here {A} s i j at other there = absurd (true≢false (sym (eq-eqb j i (sym there ∙ at)) ∙ other))

pub not_open : {A : Type 0} (c : Condition) → is_open (whole_condition c) ≡ false → is_open (whole_condition c) ≡ true → A
not_open {A} c closed o = absurd (true≢false (sym o ∙ closed))

-- an item that is not deferred is opened where the host stands
pub open_here : (plan : Plan) (s : State) (i : ℕ) (w : Work) → slice_get plan.items i ≡ Some w → w.deferred ≡ false →
    enabled plan s (Open i) ≡ true → s.place ≡ i
open_here plan s i w is now may =
    let all = sym (ap (λ o. elim o [
      | None ↦ false
      | Some v ↦ not (is_wait v.kind) && ((v.deferred || (s.place == i)) &&
          (is_waiting v.deferred (whole_condition (s.condition i)) && is_ready plan (as_whole s) i))
    ]) is) ∙ may in
    let there = and_parts _ _ (and_parts _ _ all).1 in
    eqb-true s.place i (sym (ap (λ d. d || (s.place == i)) now) ∙ there.0)
