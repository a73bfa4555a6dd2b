-- Counting the predecessors of an item that are not closed.
use Rattle.std.proofs.Common.{◌≡◌, ◌⊎◌, inl, inr, ℕ, zero, suc, ◌+◌, ◌<◌, ◌≤◌, Bool, true, false, List, length, refl, sym, ap, subst, ◌∙◌, arith}
use Rattle.std.specs.Prelude.{◌&&◌, not}
use Rattle.std.specs.List.{slice_set}
use Rattle.std.proofs.lemmas.Bool.{cases_eq}
use Rattle.std.proofs.lemmas.List.{get_or-set_same, get_or-set_other}
use Rattle.std.proofs.Math.Bool.{and-false, and-true}
use Rattle.base.specs.Machine.{is_closed}
use Rattle.taskgraph.specs.declared.Stage.{Stage}
use Rattle.taskgraph.specs.declared.Stage.TheVariants as stage
use Rattle.taskgraph.specs.Board.{Board, plan_in, stage_at, condition_of}
use Rattle.taskgraph.specs.Waiting.{is_counted, holds_back, one_if, held_by}

abbrev pub closed_in : Board → ℕ → Bool
closed_in b k = is_closed (condition_of (stage_at b k))

-- the board with other stages and another place
abbrev pub with : Board → List Stage → ℕ → Board
with b stages place = record { tasks = b.tasks; stages = stages; place = place }

abbrev pub set_at : Board → ℕ → Stage → ℕ → Board
set_at b i st place = with b (slice_set b.stages i st) place

pub stage_set : (b : Board) (i : ℕ) (st : Stage) (place : ℕ) → i < length b.stages → stage_at (set_at b i st place) i ≡ st
stage_set b i st place lt = get_or-set_same b.stages i st stage.Untouched lt

pub stage_kept : (b : Board) (i k : ℕ) (st : Stage) (place : ℕ) → (k ≡ i → ⊥) →
    stage_at (set_at b i st place) k ≡ stage_at b k
stage_kept b i k st place ne = get_or-set_other b.stages i k st stage.Untouched ne

-- where the same of the first items are closed, the count is the same
pub held_kept : (b : Board) (stages : List Stage) (place s j n : ℕ) →
    ((k : ℕ) → k < n → closed_in b k ≡ closed_in (with b stages place) k) →
    held_by b s j n ≡ held_by (with b stages place) s j n
unfolding held_by
held_kept b stages place s j zero h = refl
held_kept b stages place s j (suc n) h =
    ap (λ c. held_by b s j n + one_if (is_counted (plan_in b) s n j && not c)) (h n (omega arith))
    ∙ ap (λ m. m + one_if (is_counted (plan_in b) s n j && not (closed_in (with b stages place) n)))
    (held_kept b stages place s j n (λ k lt. h k (omega (arith, lt))))

-- setting a stage that is not closed to another that is not keeps the counts
pub set_keeps : (b : Board) (i : ℕ) (st : Stage) (place s j n : ℕ) → i < length b.stages → closed_in b i ≡ false →
    is_closed (condition_of st) ≡ false → held_by b s j n ≡ held_by (set_at b i st place) s j n
set_keeps b i st place s j n lt before after =
    held_kept b (slice_set b.stages i st) place s j n (λ k _. go k (cases_eq k i))
  where
    go : (k : ℕ) → (k ≡ i) ⊎ (k ≡ i → ⊥) → closed_in b k ≡ closed_in (set_at b i st place) k
    go k (inr ne) = ap (λ x. is_closed (condition_of x)) (sym (stage_kept b i k st place ne))
    go k (inl e) =
        ap (closed_in b) e ∙ before ∙ sym after
        ∙ ap (λ x. is_closed (condition_of x)) (sym (stage_set b i st place lt))
        ∙ ap (closed_in (set_at b i st place)) (sym e)

-- closing an item changes no count of those up to it
pub close_keeps : (b : Board) (i place s j n : ℕ) → n ≤ i → held_by b s j n ≡ held_by (set_at b i stage.Closed place) s j n
close_keeps b i place s j n le =
    held_kept b (slice_set b.stages i stage.Closed) place s j n
    (λ k lt. ap (λ x. is_closed (condition_of x))
    (sym (stage_kept b i k stage.Closed place (λ e. omega (arith, le, lt, e)))))

-- and takes one from each that it holds back
pub close_takes : (b : Board) (i place s j d : ℕ) → i < length b.stages → closed_in b i ≡ false →
    held_by b s j (suc i + d) ≡ held_by (set_at b i stage.Closed place) s j (suc i + d) + one_if (is_counted (plan_in b) s i j)
unfolding held_by
close_takes b i place s j zero lt was =
    let now : closed_in (set_at b i stage.Closed place) i ≡ true =
    ap (λ x. is_closed (condition_of x)) (stage_set b i stage.Closed place lt) in
    let c = set_at b i stage.Closed place in
    let p = is_counted (plan_in b) s i j in
    let first : held_by b s j (suc i) ≡ held_by b s j i + one_if p =
    ap (λ x. held_by b s j i + one_if (p && not x)) was ∙ ap (λ x. held_by b s j i + one_if x) (and-true p) in
    let second : held_by c s j (suc i) ≡ held_by c s j i + 0 =
    ap (λ x. held_by c s j i + one_if (p && not x)) now ∙ ap (λ x. held_by c s j i + one_if x) (and-false p) in
    let kept = close_keeps b i place s j i (omega arith) in
    let taken : held_by b s j (suc i) ≡ held_by c s j (suc i) + one_if p = omega (arith, first, second, kept) in
    let none : suc i ≡ suc i + 0 = omega arith in
    subst (λ m. held_by b s j m ≡ held_by c s j m + one_if p) none taken
close_takes b i place s j (suc d) lt was =
    let n = suc i + d in
    let c = set_at b i stage.Closed place in
    let p = is_counted (plan_in b) s i j in
    let kept : closed_in c n ≡ closed_in b n =
    ap (λ x. is_closed (condition_of x)) (stage_kept b i n stage.Closed place (λ e. omega (arith, e))) in
    let more : one_if (holds_back b s n j) ≡ one_if (holds_back c s n j) =
    ap (λ x. one_if (is_counted (plan_in b) s n j && not x)) (sym kept) in
    let rest = close_takes b i place s j d lt was in
    let taken : held_by b s j (suc n) ≡ held_by c s j (suc n) + one_if p = omega (arith, more, rest) in
    let one : suc n ≡ suc i + suc d = omega arith in
    subst (λ m. held_by b s j m ≡ held_by c s j m + one_if p) one taken

-- ---- a count of none

free_at : (b : Board) (s j n k : ℕ) (x : Bool) → holds_back b s n j ≡ x → (k ≡ n) ⊎ (k ≡ n → ⊥) →
    held_by b s j n + one_if (holds_back b s n j) ≡ 0 → k < suc n →
    (held_by b s j n ≡ 0 → k < n → holds_back b s k j ≡ false) → holds_back b s k j ≡ false
free_at b s j n k true f c e lt rest = absurd (let one : one_if (holds_back b s n j) ≡ 1 = ap one_if f in omega (arith, e, one))
free_at b s j n k false f (inl same) e lt rest = ap (λ m. holds_back b s m j) same ∙ f
free_at b s j n k false f (inr ne) e lt rest =
    let one : one_if (holds_back b s n j) ≡ 0 = ap one_if f in rest (omega (arith, e, one)) (omega (arith, lt, ne))

pub free : (b : Board) (s j n : ℕ) → held_by b s j n ≡ 0 → (k : ℕ) → k < n → holds_back b s k j ≡ false
unfolding held_by
free b s j zero e k lt = absurd (omega (arith, lt))
free b s j (suc n) e k lt = free_at b s j n k (holds_back b s n j) refl (cases_eq k n) e lt (λ r l. free b s j n r k l)

pub none : (b : Board) (s j n : ℕ) → ((k : ℕ) → k < n → holds_back b s k j ≡ false) → held_by b s j n ≡ 0
unfolding held_by
none b s j zero h = refl
none b s j (suc n) h =
    let rest = none b s j n (λ k lt. h k (omega (arith, lt))) in
    let one : one_if (holds_back b s n j) ≡ 0 = ap one_if (h n (omega arith)) in
    omega (arith, rest, one)
