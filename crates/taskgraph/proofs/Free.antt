-- An item for which no count is left, or no deferred item before it, is ready.
use Rattle.std.proofs.Common.{◌≡◌, ◌⊎◌, inl, inr, ℕ, ◌<◌, ◌≤◌, Bool, true, false, List, length, Option, Some, None, refl, sym, ap, ◌∙◌, arith}
use Rattle.std.specs.Prelude.{◌==◌, ◌&&◌, ◌||◌, not, nat_le, slice_get, slice_index, option_map, if◌then◌else◌}
use Rattle.std.proofs.lemmas.Bool.{and_parts, cases_lt, eq-eqb, eqb-true, le-leb, ne_eqb}
use Rattle.std.proofs.lemmas.List.{length-map}
use Rattle.std.proofs.lemmas.Option.{slice_get-map, slice_get_within}
use Rattle.std.proofs.Math.Bool.{and-false, and_comm}
use Rattle.base.specs.declared.item.Event.TheVariants.{Open, Wait}
use Rattle.base.specs.Items.{Work}
use Rattle.base.specs.Machine.{is_closed, is_wait, is_waiting, is_ready, precedes}
use Rattle.taskgraph.specs.declared.Stage.{Stage}
use Rattle.taskgraph.specs.declared.Stage.TheVariants as stage
use Rattle.taskgraph.specs.Board.{Facts, Board, condition_of, work_of, plan_in, state_in, stage_at, allows}
use Rattle.taskgraph.specs.Waiting.{IsBarred, IsBehind, IsFirst, IsGraph, IsStart, begins, is_bare, is_bare_at, is_begun, is_counted, is_deferred, waits_for}
use Rattle.taskgraph.proofs.Counts.{closed_in, free}
use Rattle.taskgraph.proofs.Readiness.{closed_ready, freed, ready_closed}
use Rattle.taskgraph.proofs.Kept.{is_generated}
use Rattle.taskgraph.proofs.Precedence.{bare_precedes, before, deferred_of}
use Rattle.taskgraph.proofs.Ready.{at}

-- a counted predecessor is closed where the count is none
counted_closed : (b : Board) (starts : List ℕ) (k j : ℕ) → waits_for b starts j ≡ 0 → k < j →
    is_counted (plan_in b) (slice_index starts j) k j ≡ true → closed_in b k ≡ true
counted_closed b starts k j zero lt e =
    freed (is_counted (plan_in b) (slice_index starts j) k j) (closed_in b k)
    (free b (slice_index starts j) j j zero k lt) e

is_begun_closed : (b : Board) (k : ℕ) → closed_in b k ≡ true → is_begun (stage_at b k) ≡ true
is_begun_closed b k e = go (stage_at b k) e
  where
    go : (st : Stage) → is_closed (condition_of st) ≡ true → is_begun st ≡ true
    go stage.Untouched e = absurd cc
    go stage.Generated e = absurd cc
    go stage.Open e = refl
    go stage.Closed e = refl
    go stage.Passed e = absurd cc

pub count_ready : (b : Board) (starts ends counts : List ℕ) (first j : ℕ) → IsGraph b starts ends counts first →
    j < length b.tasks → j ≤ b.place → is_bare_at (plan_in b) j ≡ false → waits_for b starts j ≡ 0 →
    is_ready (plan_in b) (state_in b) j ≡ true
count_ready b starts ends counts first j g inside here bare zero =
    ready_closed b j (λ i lt p. go i p (cases_lt i (slice_index starts j)))
  where
    law : IsStart (plan_in b) j (slice_index starts j)
    law = g.starts.1 j (omega (arith, inside, length-map b.tasks work_of))

    behind : (i : ℕ) → precedes (plan_in b) i j ≡ true →
        IsBehind (plan_in b) (slice_index starts j) i j ⊎ IsBarred (plan_in b) i j → closed_in b i ≡ true
    behind i p (inl h) =
        let lt = before (plan_in b) h.item j (and_parts (nat_le (slice_index starts j) h.item) _ h.counted).1 in
        g.ordered.begun i h.item (is_begun_closed b h.item (counted_closed b starts h.item j zero lt h.counted)) h.waits
    behind i p (inr h) =
        g.ordered.barred h.item (omega (arith, h.before, here)) h.barrier i h.after (deferred_of (plan_in b) i j p)

    go : (i : ℕ) → precedes (plan_in b) i j ≡ true → (i < slice_index starts j) ⊎ (slice_index starts j ≤ i) →
        closed_in b i ≡ true
    go i p (inl early) = behind i p (law.law i early bare p)
    go i p (inr late) =
        counted_closed b starts i j zero (before (plan_in b) i j p)
        (ap (λ x. x && precedes (plan_in b) i j) (le-leb (slice_index starts j) i late) ∙ p)

-- what may begin does not lie past the host's place
begins_here : (b : Board) (f : Facts) (j : ℕ) → ((i : ℕ) → stage_at b i ≡ stage.Generated → i < b.place) →
    begins f (stage_at b j) (b.place == j) ≡ true → j ≤ b.place
begins_here b f j h e = go (is_wait f.kind) f.deferred refl refl e
  where
    at_place : (b.place == j) ≡ true → j ≤ b.place
    at_place q = let same = eqb-true b.place j q in omega (arith, same)

    go : (w d : Bool) → is_wait f.kind ≡ w → f.deferred ≡ d →
        (if w then (b.place == j) else ((d || (b.place == j)) && is_waiting d (condition_of (stage_at b j)))) ≡ true →
        j ≤ b.place
    go true d _ _ e = at_place e
    go false true _ _ e = omega (arith, h j (is_generated (stage_at b j) e))
    go false false _ _ e = at_place (and_parts (b.place == j) _ e).0

settle : (x y : Bool) → (y ≡ true → x ≡ true) → y ≡ (x && y)
settle x true h = sym (ap (λ z. z && true) (h refl))
settle x false h = sym (and-false x)

pub free_is : (b : Board) (starts ends counts : List ℕ) (first j : ℕ) (f : Facts) → IsGraph b starts ends counts first →
    slice_get b.tasks j ≡ Some f → is_bare (work_of f) ≡ false → waits_for b starts j ≡ 0 →
    begins f (stage_at b j) (b.place == j) ≡ (allows b (Open j) || allows b (Wait j))
free_is b starts ends counts first j f g e bare zero =
    settle (is_ready (plan_in b) (state_in b) j) (begins f (stage_at b j) (b.place == j))
    (λ y. count_ready b starts ends counts first j g (slice_get_within b.tasks j f e)
    (begins_here b f j g.counted.generated y) bare_here zero)
    ∙ sym (at b j f e)
  where
    bare_here : is_bare_at (plan_in b) j ≡ false
    bare_here =
        ap (λ (o : Option Work). elim o [ None ↦ false | Some w ↦ is_bare w ])
        (slice_get-map work_of b.tasks j ∙ ap (option_map work_of) e) ∙ bare

-- ---- a `taskwait` without a clause

bare_ready : (b : Board) (first j : ℕ) → IsFirst b first → b.place ≡ j → is_bare_at (plan_in b) j ≡ true →
    (first == j) ≡ is_ready (plan_in b) (state_in b) j
bare_ready b first j h here bare = go (cases_lt first j)
  where
    go : (first < j) ⊎ (j ≤ first) → (first == j) ≡ is_ready (plan_in b) (state_in b) j
    go (inr all) =
        let same : first ≡ j = let le = h.inside in omega (arith, all, here, le) in
        eq-eqb first j same ∙ sym (ready_closed b j
        (λ i lt p. h.below i (omega (arith, lt, same)) (deferred_of (plan_in b) i j p)))
    go (inl less) = ne_eqb first j (λ q. omega (arith, less, q)) ∙ sym (never (is_ready (plan_in b) (state_in b) j) refl)
      where
        left : (is_deferred (plan_in b) first && not (closed_in b first)) ≡ true
        left = h.left (omega (arith, less, here))

        never : (x : Bool) → is_ready (plan_in b) (state_in b) j ≡ x → x ≡ false
        never false e = refl
        never true e =
            let p = and_parts (is_deferred (plan_in b) first) (not (closed_in b first)) left in
            let closed = closed_ready b first j e (bare_precedes (plan_in b) first j less p.0 bare) in
            let bad : not (closed_in b first) ≡ false = ap not closed in absurd cc

pub bare_is : (b : Board) (first j : ℕ) (f : Facts) → IsFirst b first → slice_get b.tasks j ≡ Some f →
    is_bare (work_of f) ≡ true →
    ((b.place == j) && (first == j)) ≡ (allows b (Open j) || allows b (Wait j))
bare_is b first j f h e bare =
    go (b.place == j) refl ∙ sym (waits ∙ and_comm (is_ready (plan_in b) (state_in b) j) (b.place == j))
  where
    wait : is_wait f.kind ≡ true
    wait = (and_parts (is_wait f.kind) _ bare).0

    waits : (allows b (Open j) || allows b (Wait j)) ≡ (is_ready (plan_in b) (state_in b) j && (b.place == j))
    waits =
        at b j f e ∙ ap (λ w. is_ready (plan_in b) (state_in b) j && (if w then (b.place == j)
        else ((f.deferred || (b.place == j)) && is_waiting f.deferred (condition_of (stage_at b j))))) wait

    bare_here : is_bare_at (plan_in b) j ≡ true
    bare_here =
        ap (λ (o : Option Work). elim o [ None ↦ false | Some w ↦ is_bare w ])
        (slice_get-map work_of b.tasks j ∙ ap (option_map work_of) e) ∙ bare

    go : (x : Bool) → (b.place == j) ≡ x → (x && (first == j)) ≡ (x && is_ready (plan_in b) (state_in b) j)
    go false q = refl
    go true q = bare_ready b first j h (eqb-true b.place j q) bare_here
