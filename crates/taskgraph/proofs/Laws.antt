-- The graph allows what the machine enables in each state that it stands for.
use Rattle.std.proofs.Common.{◌≡◌, ℕ, ◌<◌, Bool, true, false, List, [], ◌∷◌, map, length, Option, Some, None, refl, sym, ap, ◌∙◌}
use Rattle.std.specs.Prelude.{◌==◌, ◌&&◌, ◌||◌, not, nat_lt, slice_get, option_map}
use Rattle.std.specs.List.{list_all, range_with_len}
use Rattle.std.proofs.lemmas.Option.{slice_get-map, slice_get_within}
use Rattle.std.proofs.lemmas.List.{length-map}
use Rattle.std.proofs.Math.Bool.{and-false}
use Rattle.taskgraph.specs.Laws.{AllowedIsEnabled}
use Rattle.base.specs.declared.item.Event.{Event}
use Rattle.base.specs.declared.item.Event.TheVariants as event
use Rattle.base.specs.Items.{Work, Plan}
use Rattle.base.specs.Machine.{Condition, Untouched, Generated, Opened, Closed, Passed, State, is_closed, is_open, is_waiting, is_wait, is_predecessor, on_item, precedes, is_ready, deferred_closed, enabled}
use Rattle.taskgraph.specs.Board.{Facts, Board, Stands, facts_of, work_of, plan_in, state_in, condition_of, stage_of}

-- a question to an item of the plan has the same answer of its task
pub on_same : {A : Type 0} → (plan : Plan) (b : Board) (i : ℕ) (other : A) (f g : Work → A) → map facts_of plan.items ≡ b.tasks →
    ((w : Work) → i < length b.tasks → f w ≡ g (work_of (facts_of w))) →
    on_item plan i other f ≡ on_item (plan_in b) i other g
on_same {A = A} plan b i other f g h k = go (slice_get plan.items i) refl
  where
    answer : Option Work → (Work → A) → A
    answer o f = elim o [ None ↦ other | Some w ↦ f w ]

    at : (o : Option Work) → slice_get b.tasks i ≡ option_map facts_of o →
        answer o f ≡ answer (option_map work_of (option_map facts_of o)) g
    at None e = refl
    at (Some w) e = k w (slice_get_within b.tasks i (facts_of w) e)

    go : (o : Option Work) → slice_get plan.items i ≡ o → on_item plan i other f ≡ on_item (plan_in b) i other g
    go o e =
        let facts : slice_get b.tasks i ≡ option_map facts_of o =
        ap (λ ws. slice_get ws i) (sym h) ∙ slice_get-map facts_of plan.items i ∙ ap (option_map facts_of) e in
        let task : slice_get (map work_of b.tasks) i ≡ option_map work_of (option_map facts_of o) =
        slice_get-map work_of b.tasks i ∙ ap (option_map work_of) facts in
        ap (λ x. answer x f) e ∙ at o facts ∙ sym (ap (λ x. answer x g) task)

precedes_same : (plan : Plan) (b : Board) (i j : ℕ) → map facts_of plan.items ≡ b.tasks →
    precedes plan i j ≡ precedes (plan_in b) i j
precedes_same plan b i j h =
    ap (λ x. nat_lt i j && x)
    (on_same plan b i false (λ e. on_item plan j false (λ l. is_predecessor e l))
    (λ e. on_item (plan_in b) j false (λ l. is_predecessor e l)) h
    (λ v _. on_same plan b j false (λ l. is_predecessor v l) (λ l. is_predecessor (work_of (facts_of v)) l) h (λ w _. refl)))

closed_stage : (c : Condition) → is_closed c ≡ is_closed (condition_of (stage_of c))
closed_stage Untouched = refl
closed_stage (Generated s) = refl
closed_stage (Opened s v) = refl
closed_stage Closed = refl
closed_stage Passed = refl

open_stage : (c : Condition) → is_open c ≡ is_open (condition_of (stage_of c))
open_stage Untouched = refl
open_stage (Generated s) = refl
open_stage (Opened s v) = refl
open_stage Closed = refl
open_stage Passed = refl

waiting_stage : (d : Bool) (c : Condition) → is_waiting d c ≡ is_waiting d (condition_of (stage_of c))
waiting_stage true Untouched = refl
waiting_stage true (Generated s) = refl
waiting_stage true (Opened s v) = refl
waiting_stage true Closed = refl
waiting_stage true Passed = refl
waiting_stage false Untouched = refl
waiting_stage false (Generated s) = refl
waiting_stage false (Opened s v) = refl
waiting_stage false Closed = refl
waiting_stage false Passed = refl

closed_same : (plan : Plan) (s : State) (b : Board) (i : ℕ) → Stands plan s b → i < length b.tasks →
    is_closed (s.condition i) ≡ is_closed ((state_in b).condition i)
closed_same plan s b i h lt = closed_stage (s.condition i) ∙ ap (λ x. is_closed (condition_of x)) (h.conditions i lt)

open_same : (plan : Plan) (s : State) (b : Board) (i : ℕ) → Stands plan s b → i < length b.tasks →
    is_open (s.condition i) ≡ is_open ((state_in b).condition i)
open_same plan s b i h lt = open_stage (s.condition i) ∙ ap (λ x. is_open (condition_of x)) (h.conditions i lt)

waiting_same : (plan : Plan) (s : State) (b : Board) (i : ℕ) (d : Bool) → Stands plan s b → i < length b.tasks →
    is_waiting d (s.condition i) ≡ is_waiting d ((state_in b).condition i)
waiting_same plan s b i d h lt =
    waiting_stage d (s.condition i) ∙ ap (λ x. is_waiting d (condition_of x)) (h.conditions i lt)

all_same : (p q : ℕ → Bool) (xs : List ℕ) → ((x : ℕ) → p x ≡ q x) → list_all p xs ≡ list_all q xs
all_same p q [] h = refl
all_same p q (x ∷ xs) h = rw (h x, all_same p q xs h) refl

-- an item that precedes another is one
pub precedes_inside : (b : Board) (i j : ℕ) → precedes (plan_in b) i j ≡ true → i < length b.tasks
precedes_inside b i j e = go (slice_get b.tasks i) refl
  where
    go : (o : Option Facts) → slice_get b.tasks i ≡ o → i < length b.tasks
    go (Some t) f = slice_get_within b.tasks i t f
    go None f =
        let none : slice_get (map work_of b.tasks) i ≡ None =
        slice_get-map work_of b.tasks i ∙ ap (option_map work_of) f in
        let no : precedes (plan_in b) i j ≡ false =
        ap (λ x. nat_lt i j && elim x [ None ↦ false | Some e ↦ on_item (plan_in b) j false (is_predecessor e) ]) none
        ∙ and-false (nat_lt i j) in
        absurd (let bad : true ≡ false = sym e ∙ no in cc)

implied_same : (x y p : Bool) → (p ≡ true → x ≡ y) → (not p || x) ≡ (not p || y)
implied_same x y true h = h refl
implied_same x y false h = refl

pub ready_same : (plan : Plan) (s : State) (b : Board) (j : ℕ) → Stands plan s b →
    is_ready plan s j ≡ is_ready (plan_in b) (state_in b) j
ready_same plan s b j h =
    all_same (λ i. not (precedes plan i j) || is_closed (s.condition i))
    (λ i. not (precedes (plan_in b) i j) || is_closed ((state_in b).condition i)) (range_with_len 0 j)
    (λ i. rw (precedes_same plan b i j h.items)
    (implied_same (is_closed (s.condition i)) (is_closed ((state_in b).condition i)) (precedes (plan_in b) i j)
    (λ e. closed_same plan s b i h (precedes_inside b i j e))))

-- the graph has as many items
as_long : (plan : Plan) (s : State) (b : Board) → Stands plan s b → length plan.items ≡ length (map work_of b.tasks)
as_long plan s b h =
    sym (length-map plan.items facts_of) ∙ ap (λ (l : List Facts). length l) h.items ∙ sym (length-map b.tasks work_of)

deferred_same : (plan : Plan) (s : State) (b : Board) → Stands plan s b →
    deferred_closed plan s ≡ deferred_closed (plan_in b) (state_in b)
deferred_same plan s b h =
    let long = as_long plan s b h in
    all_same (λ i. on_item plan i true (λ w. not w.deferred || is_closed (s.condition i)))
    (λ i. on_item (plan_in b) i true (λ w. not w.deferred || is_closed ((state_in b).condition i)))
    (range_with_len 0 (length plan.items))
    (λ i. on_same plan b i true (λ w. not w.deferred || is_closed (s.condition i))
    (λ w. not w.deferred || is_closed ((state_in b).condition i)) h.items
    (λ w lt. ap (λ x. not w.deferred || x) (closed_same plan s b i h lt)))
    ∙ ap (λ n. list_all (λ i. on_item (plan_in b) i true (λ w. not w.deferred || is_closed ((state_in b).condition i)))
    (range_with_len 0 n)) long

pub same : (plan : Plan) (s : State) (b : Board) (e : Event) → Stands plan s b →
    enabled plan s e ≡ enabled (plan_in b) (state_in b) e
same plan s b (event.Gen i) h =
    ap (λ x. (x == i) && on_item plan i false (λ w. w.deferred)) h.place
    ∙ ap (λ x. (b.place == i) && x) (on_same plan b i false (λ w. w.deferred) (λ w. w.deferred) h.items (λ w _. refl))
same plan s b (event.Open i) h =
    on_same plan b i false
    (λ w. not (is_wait w.kind) && ((w.deferred || (s.place == i)) &&
    (is_waiting w.deferred (s.condition i) && is_ready plan s i)))
    (λ w. not (is_wait w.kind) && ((w.deferred || (b.place == i)) &&
    (is_waiting w.deferred ((state_in b).condition i) && is_ready (plan_in b) (state_in b) i))) h.items
    (λ w lt. ap (λ p. not (is_wait w.kind) && ((w.deferred || (p == i)) &&
    (is_waiting w.deferred (s.condition i) && is_ready plan s i))) h.place
    ∙ ap (λ x. not (is_wait w.kind) && ((w.deferred || (b.place == i)) && (x && is_ready plan s i)))
    (waiting_same plan s b i w.deferred h lt)
    ∙ ap (λ x. not (is_wait w.kind) && ((w.deferred || (b.place == i)) &&
    (is_waiting w.deferred ((state_in b).condition i) && x))) (ready_same plan s b i h))
same plan s b (event.Step i) h = refl
same plan s b (event.Close i) h =
    on_same plan b i false (λ w. is_open (s.condition i)) (λ w. is_open ((state_in b).condition i)) h.items
    (λ w lt. open_same plan s b i h lt)
same plan s b (event.Wait i) h =
    ap (λ p. (p == i) && (on_item plan i false (λ w. is_wait w.kind) && is_ready plan s i)) h.place
    ∙ ap (λ x. (b.place == i) && (x && is_ready plan s i))
    (on_same plan b i false (λ w. is_wait w.kind) (λ w. is_wait w.kind) h.items (λ w _. refl))
    ∙ ap (λ x. (b.place == i) && (on_item (plan_in b) i false (λ w. is_wait w.kind) && x)) (ready_same plan s b i h)
same plan s b event.End h =
    let long = as_long plan s b h in
    ap (λ p. (p == length plan.items) && deferred_closed plan s) h.place
    ∙ ap (λ n. (b.place == n) && deferred_closed plan s) long
    ∙ ap (λ x. (b.place == length (map work_of b.tasks)) && x) (deferred_same plan s b h)

pub allowed_is_enabled : AllowedIsEnabled
allowed_is_enabled plan s b e h = sym (same plan s b e h)
