-- The turns of a loop that is cut are those of the front and then those of the back.
use Rattle.std.proofs.Common.{◌≡◌, ℕ, zero, suc, ◌+◌, ◌-◌, ◌*◌, ◌/◌, ◌%◌, ◌<◌, ◌≤◌, List, [], ◌∷◌, ◌++◌, Option, Some, None, refl, sym, ◌∙◌, ap, ap₂, subst, arith, append_assoc}
use Rattle.std.specs.Prelude.{option_and_then}
use Rattle.std.proofs.lemmas.Nat.{div-add-mod', div-mul-add, mod_below}
use Rattle.base.specs.declared.tree.Bounds.{Bounds}
use Rattle.base.specs.declared.tree.Stmt.{Stmt}
use Rattle.base.specs.Meaning.{turn, turns_of, all_turns}
use Rattle.base.specs.Turns.{Turn, each_turn, turns_at}
use Rattle.spans.specs.Spans.{IsCut, span_turns}

step_on : (v m step : ℕ) → v + step + m * step ≡ v + suc m * step
step_on v m step = omega arith

suc_first : (m n : ℕ) → suc m + n ≡ suc (m + n)
suc_first m n = omega arith

turn_split : {S : Type 0} (m n v step : ℕ) (f : ℕ → S → Option S) (s : S) →
    turn (m + n) v step f s ≡ option_and_then (turn n (v + m * step) step f) (turn m v step f s)
turn_split zero n v step f s = ap₂ (λ k w. turn k w step f s) (omega arith) (omega arith)
turn_split {S = S} (suc m) n v step f s =
    ap (λ k. turn k v step f s) (suc_first m n) ∙ go (f v s) (λ t. turn_split m n (v + step) step f t)
  where
    go : (o : Option S) →
        ((t : S) → turn (m + n) (v + step) step f t
        ≡ option_and_then (turn n (v + step + m * step) step f) (turn m (v + step) step f t)) →
        elim o as (λ z. Option S) [ None ↦ None | Some t ↦ turn (m + n) (v + step) step f t ]
        ≡ option_and_then (turn n (v + suc m * step) step f)
        (elim o as (λ z. Option S) [ None ↦ None | Some t ↦ turn m (v + step) step f t ])
    go None h = refl
    go (Some t) h = h t ∙ ap (λ w. option_and_then (turn n w step f) (turn m (v + step) step f t)) (step_on v m step)

each_split : {A : Type 0} (m n v step : ℕ) (f : ℕ → List A) →
    each_turn (m + n) v step f ≡ each_turn m v step f ++ each_turn n (v + m * step) step f
each_split zero n v step f = ap₂ (λ k w. each_turn k w step f) (omega arith) (omega arith)
each_split (suc m) n v step f =
    ap (λ k. each_turn k v step f) (suc_first m n)
    ∙ ap (λ xs. f v ++ xs)
    (each_split m n (v + step) step f
    ∙ ap (λ w. each_turn m (v + step) step f ++ each_turn n w step f) (step_on v m step))
    ∙ sym (append_assoc (f v) (each_turn m (v + step) step f) (each_turn n (v + suc m * step) step f))

by_steps : (k x step : ℕ) → 1 ≤ step → (k * step + x) / step ≡ k + x / step
by_steps k x step h =
    let e : k * step + x ≡ (k + x / step) * step + x % step = omega (arith, div-add-mod' x step) in
    ap (λ y. y / step) e ∙ div-mul-add (k + x / step) step (x % step) (mod_below x step h)

module _ (b front back : Bounds) (cut : IsCut b front back) where
  front_turns : turns_of front ≡ cut.turns
  front_turns =
      let e : front.end - front.first + (front.step - 1) ≡ cut.turns * b.step + (b.step - 1) =
      omega (arith, cut.first, cut.front_end, cut.front_step) in
      ap₂ (λ x y. x / y) e cut.front_step
      ∙ let s = b.step_not_zero in div-mul-add cut.turns b.step (b.step - 1) (omega arith)

  all_are : turns_of b ≡ turns_of front + turns_of back
  all_are =
      let e : b.end - b.first + (b.step - 1) ≡ cut.turns * b.step + (back.end - back.first + (b.step - 1)) =
      omega (arith, cut.back_first, cut.back_end, cut.more) in
      ap (λ x. x / b.step) e
      ∙ by_steps cut.turns (back.end - back.first + (b.step - 1)) b.step b.step_not_zero
      ∙ ap₂ (λ x y. x + y) (sym front_turns)
      (ap (λ s. (back.end - back.first + (s - 1)) / s) (sym cut.back_step))

  at_back : b.first + turns_of front * b.step ≡ back.first
  at_back = ap (λ k. b.first + k * b.step) front_turns ∙ sym cut.back_first

  pub all_split : {S : Type 0} (f : ℕ → S → Option S) (s : S) →
      all_turns b f s ≡ option_and_then (all_turns back f) (all_turns front f s)
  all_split f s =
      ap (λ k. turn k b.first b.step f s) all_are
      ∙ turn_split (turns_of front) (turns_of back) b.first b.step f s
      ∙ ap₂ (λ w step. option_and_then (turn (turns_of back) w step f) (turn (turns_of front) b.first b.step f s))
      at_back (sym cut.back_step)
      ∙ ap₂ (λ w step. option_and_then (all_turns back f) (turn (turns_of front) w step f s)) (sym cut.first)
      (sym cut.front_step)

  pub turns_split : (d : ℕ) (body : List Stmt) (loops : List ℕ) →
      span_turns d b body loops ≡ span_turns d front body loops ++ span_turns d back body loops
  turns_split d body loops =
      let f : ℕ → List Turn = (λ v. turns_at d body (loops ++ v ∷ [])) in
      ap (λ k. each_turn k b.first b.step f) all_are
      ∙ each_split (turns_of front) (turns_of back) b.first b.step f
      ∙ ap₂ (λ w step. each_turn (turns_of front) b.first b.step f ++ each_turn (turns_of back) w step f)
      at_back (sym cut.back_step)
      ∙ ap₂ (λ w step. each_turn (turns_of front) w step f ++ span_turns d back body loops) (sym cut.first)
      (sym cut.front_step)
