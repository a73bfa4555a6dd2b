-- Readiness, from what is closed and from the counts.
use Rattle.std.proofs.Common.{◌≡◌, ℕ, zero, suc, ◌+◌, ◌<◌, Bool, true, false, refl, sym, ap, subst, ◌∙◌, arith, zero-add}
use Rattle.std.specs.Prelude.{◌&&◌, ◌||◌, not, nat_le, nat_lt}
use Rattle.std.specs.List.{list_all, range_with_len}
use Rattle.std.proofs.lemmas.Bool.{and_parts, ltb-true}
use Rattle.base.specs.Machine.{precedes, is_ready}
use Rattle.taskgraph.specs.Board.{Board, plan_in, state_in}
use Rattle.taskgraph.specs.Waiting.{held_by}
use Rattle.taskgraph.proofs.Counts.{closed_in, none}

pub all_in : (p : ℕ → Bool) (a n : ℕ) → list_all p (range_with_len a n) ≡ true → (k : ℕ) → k < n → p (a + k) ≡ true
all_in p a zero h k lt = absurd (omega (arith, lt))
all_in p a (suc n) h zero lt =
    let place : a + 0 ≡ a = omega arith in ap p place ∙ (and_parts (p a) (list_all p (range_with_len (a + 1) n)) h).0
all_in p a (suc n) h (suc k) lt =
    let place : a + suc k ≡ a + 1 + k = omega arith in
    ap p place
    ∙ all_in p (a + 1) n (and_parts (p a) (list_all p (range_with_len (a + 1) n)) h).1 k (omega (arith, lt))

pub all_from : (p : ℕ → Bool) (a n : ℕ) → ((k : ℕ) → k < n → p (a + k) ≡ true) → list_all p (range_with_len a n) ≡ true
all_from p a zero h = refl
all_from p a (suc n) h =
    let first : a ≡ a + 0 = omega arith in
    let here : p a ≡ true = ap p first ∙ h 0 (omega arith) in
    let rest : list_all p (range_with_len (a + 1) n) ≡ true =
    all_from p (a + 1) n (λ k lt. let place : a + 1 + k ≡ a + suc k = omega arith in ap p place ∙ h (suc k) (omega (arith, lt))) in
    ap (λ x. x && list_all p (range_with_len (a + 1) n)) here ∙ rest

pub freed : (p c : Bool) → (p && not c) ≡ false → p ≡ true → c ≡ true
freed true true e f = refl
freed true false e f = absurd cc
freed false c e f = absurd cc

held : (x p c : Bool) → (not p || c) ≡ true → ((x && p) && not c) ≡ false
held true true true e = refl
held true true false e = absurd cc
held true false c e = refl
held false p c e = refl

pub implied : (p c : Bool) → (p ≡ true → c ≡ true) → (not p || c) ≡ true
implied true c h = h refl
implied false c h = refl

-- an item is ready where all that precede it are closed
pub ready_closed : (b : Board) (j : ℕ) →
    ((i : ℕ) → i < j → precedes (plan_in b) i j ≡ true → closed_in b i ≡ true) →
    is_ready (plan_in b) (state_in b) j ≡ true
ready_closed b j h =
    all_from (λ i. not (precedes (plan_in b) i j) || closed_in b i) 0 j
    (λ k lt. subst (λ i. (not (precedes (plan_in b) i j) || closed_in b i) ≡ true) (sym (zero-add k))
    (implied (precedes (plan_in b) k j) (closed_in b k) (h k lt)))

ready_at : (b : Board) (j : ℕ) → is_ready (plan_in b) (state_in b) j ≡ true → (k : ℕ) → k < j →
    (not (precedes (plan_in b) k j) || closed_in b k) ≡ true
ready_at b j e k lt =
    subst (λ i. (not (precedes (plan_in b) i j) || closed_in b i) ≡ true) (zero-add k)
    (all_in (λ i. not (precedes (plan_in b) i j) || closed_in b i) 0 j e k lt)

pub stated : (p c : Bool) → (not p || c) ≡ true → p ≡ true → c ≡ true
stated true c e f = e
stated false c e f = absurd cc

pub closed_ready : (b : Board) (i j : ℕ) → is_ready (plan_in b) (state_in b) j ≡ true →
    precedes (plan_in b) i j ≡ true → closed_in b i ≡ true
closed_ready b i j e f =
    stated (precedes (plan_in b) i j) (closed_in b i)
    (ready_at b j e i (ltb-true i j (and_parts (nat_lt i j) _ f).0)) f

-- and then none holds it back
pub free_ready : (b : Board) (s j : ℕ) → is_ready (plan_in b) (state_in b) j ≡ true → held_by b s j j ≡ 0
free_ready b s j e =
    none b s j j (λ k lt. held (nat_le s k) (precedes (plan_in b) k j) (closed_in b k) (ready_at b j e k lt))
