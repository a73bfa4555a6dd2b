-- The graph stays one where an event happens.
use Rattle.std.proofs.Common.{◌≡◌, ◌⊎◌, inl, inr, ℕ, ◌+◌, ◌<◌, ◌≤◌, Bool, true, false, List, length, Some, refl, sym, ap, ◌∙◌, arith}
use Rattle.std.specs.Prelude.{◌==◌, ◌&&◌, ◌||◌, not, slice_get, slice_index}
use Rattle.std.proofs.lemmas.Bool.{and_parts, cases_lt}
use Rattle.base.specs.declared.item.Event.TheVariants.{Gen, Open, Close, Wait}
use Rattle.base.specs.Machine.{is_wait, is_ready, is_waiting, on_item}
use Rattle.taskgraph.specs.declared.Stage.TheVariants as stage
use Rattle.taskgraph.specs.Board.{Facts, Board, work_of, plan_in, state_in, stage_at, allows}
use Rattle.taskgraph.specs.Waiting.{AreClosed, IsFirst, IsGraph, is_bare, is_bare_at, is_barrier, is_begun, is_counted, is_deferred, one_if}
use Rattle.taskgraph.proofs.Counts.{closed_in, set_at}
use Rattle.taskgraph.proofs.Readiness.{closed_ready}
use Rattle.taskgraph.proofs.Kept.{may_close, may_generate, may_open, may_pass}
use Rattle.taskgraph.proofs.Ordered.{all_stay, ordered}
use Rattle.taskgraph.proofs.Precedence.{bare_precedes}
use Rattle.taskgraph.proofs.Stays.{not_closed}
use Rattle.taskgraph.proofs.Unclosed.{asked_of, fresh_at, left_kept, no_barrier, only_here}
use Rattle.taskgraph.proofs.Stays as stays
use Rattle.taskgraph.proofs.Closes as closes

pub generated : (b : Board) (starts ends counts : List ℕ) (first i : ℕ) → IsGraph b starts ends counts first →
    allows b (Gen i) ≡ true → IsGraph (set_at b i stage.Generated (b.place + 1)) starts ends counts first
generated b starts ends counts first i g a =
    let m = may_generate b i a in
    let lt : i < length b.stages = omega (arith, m.inside, g.counted.stages) in
    let not_yet = fresh_at b starts counts i g.counted m.here in
    record {
      starts = g.starts;
      ends = g.ends;
      counted = stays.generated b starts counts i g.counted a;
      ordered = ordered b i stage.Generated (b.place + 1) g.ordered lt not_yet (omega (arith, m.here, m.inside))
          (λ e. absurd cc)
          (λ w le less q. absurd (no_barrier b i m.facts m.is (inl m.deferred)
          (ap (is_barrier (plan_in b)) (sym (only_here b i w m.here le less)) ∙ q)));
      first = record {
        inside = let le = g.first.inside in omega (arith, le);
        below = all_stay b i first stage.Generated (b.place + 1) not_yet g.first.below;
        left = λ less. left_kept b i first stage.Generated (b.place + 1) lt refl
            (left (cases_lt first b.place) less (ap (λ x. x && not (closed_in b i))
            (asked_of b i m.facts (λ w. w.deferred) m.is ∙ m.deferred) ∙ ap not not_yet) m.here);
      };
    }
  where
    left : (first < b.place) ⊎ (b.place ≤ first) → first < b.place + 1 →
        (is_deferred (plan_in b) i && not (closed_in b i)) ≡ true → b.place ≡ i →
        (is_deferred (plan_in b) first && not (closed_in b first)) ≡ true
    left (inl below) less e here = g.first.left below
    left (inr above) less e here =
        ap (λ k. is_deferred (plan_in b) k && not (closed_in b k)) (only_here b i first here above less) ∙ e

pub opened : (b : Board) (starts ends counts : List ℕ) (first i : ℕ) → IsGraph b starts ends counts first →
    allows b (Open i) ≡ true → IsGraph (set_at b i stage.Open b.place) starts ends counts first
opened b starts ends counts first i g a =
    let m = may_open b i a in
    let lt : i < length b.stages = omega (arith, m.inside, g.counted.stages) in
    let ready : is_ready (plan_in b) (state_in b) i ≡ true = ready_of m.facts m.is in
    let not_yet = not_closed b i (fresh m.facts.deferred refl) in
    record {
      starts = g.starts;
      ends = g.ends;
      counted = stays.opened b starts counts i g.counted a;
      ordered = ordered b i stage.Open b.place g.ordered lt not_yet g.ordered.inside
          (λ e k p. closed_ready b k i ready p)
          (λ w le less q. absurd (omega (arith, le, less)));
      first = record {
        inside = g.first.inside;
        below = all_stay b i first stage.Open b.place not_yet g.first.below;
        left = λ less. left_kept b i first stage.Open b.place lt refl (g.first.left less);
      };
    }
  where
    fresh : (d : Bool) → (may_open b i a).facts.deferred ≡ d → stage_at b i ≡ stage.Closed → ⊥
    fresh true e f = let bad : stage.Generated ≡ stage.Closed = sym ((may_open b i a).deferred e) ∙ f in cc
    fresh false e f = let bad : stage.Untouched ≡ stage.Closed = sym ((may_open b i a).here e).1 ∙ f in cc

    ready_of : (f : Facts) → slice_get b.tasks i ≡ Some f → is_ready (plan_in b) (state_in b) i ≡ true
    ready_of f e =
        let p = and_parts (not (is_wait f.kind)) _ (sym (asked_of b i f (λ w. not (is_wait w.kind) && ((w.deferred || (b.place == i)) &&
        (is_waiting w.deferred ((state_in b).condition i) && is_ready (plan_in b) (state_in b) i))) e) ∙ a) in
        let q = and_parts (f.deferred || (b.place == i)) _ p.1 in
        (and_parts (is_waiting f.deferred ((state_in b).condition i)) (is_ready (plan_in b) (state_in b) i) q.1).1

-- a barrier that is passed has all deferred items before it closed
barrier_passed : (b : Board) (i : ℕ) → allows b (Wait i) ≡ true → is_barrier (plan_in b) i ≡ true → AreClosed b i
barrier_passed b i a e k lt d =
    let p = and_parts (b.place == i) _ a in
    let q = and_parts (on_item (plan_in b) i false (λ w. is_wait w.kind)) (is_ready (plan_in b) (state_in b) i) p.1 in
    closed_ready b k i q.1 (bare_precedes (plan_in b) k i lt d bare)
  where
    bare : is_bare_at (plan_in b) i ≡ true
    bare =
        let m = may_pass b i a in
        let both = and_parts (is_bare (work_of m.facts)) (not m.facts.deferred)
        (sym (asked_of b i m.facts (λ w. is_bare w && not w.deferred) m.is) ∙ e) in
        asked_of b i m.facts is_bare m.is ∙ both.0

pub passed : (b : Board) (starts ends counts : List ℕ) (first next i : ℕ) → IsGraph b starts ends counts first →
    allows b (Wait i) ≡ true → IsFirst (set_at b i stage.Passed (b.place + 1)) next →
    IsGraph (set_at b i stage.Passed (b.place + 1)) starts ends counts next
passed b starts ends counts first next i g a f =
    let m = may_pass b i a in
    let lt : i < length b.stages = omega (arith, m.inside, g.counted.stages) in
    record {
      starts = g.starts;
      ends = g.ends;
      counted = stays.passed b starts counts i g.counted a;
      ordered = ordered b i stage.Passed (b.place + 1) g.ordered lt (fresh_at b starts counts i g.counted m.here)
          (omega (arith, m.here, m.inside))
          (λ e. absurd cc)
          (λ w le less q k below d. barrier_passed b i a
          (ap (is_barrier (plan_in b)) (sym (only_here b i w m.here le less)) ∙ q) k
          (let same = only_here b i w m.here le less in omega (arith, below, same)) d);
      first = f;
    }

-- the items below the lowest that was left stay closed
pub passed_below : (b : Board) (starts ends counts : List ℕ) (first i : ℕ) → IsGraph b starts ends counts first →
    allows b (Wait i) ≡ true → AreClosed (set_at b i stage.Passed (b.place + 1)) first
passed_below b starts ends counts first i g a =
    all_stay b i first stage.Passed (b.place + 1) (fresh_at b starts counts i g.counted (may_pass b i a).here) g.first.below

pub closed_below : (b : Board) (starts ends counts : List ℕ) (first i place : ℕ) → IsGraph b starts ends counts first →
    allows b (Close i) ≡ true → AreClosed (set_at b i stage.Closed place) first
closed_below b starts ends counts first i place g a =
    all_stay b i first stage.Closed place (closes.was_open b i (may_close b i a).stage_is) g.first.below

open_begun : (b : Board) (i : ℕ) → stage_at b i ≡ stage.Open → is_begun (stage_at b i) ≡ true
open_begun b i e = ap is_begun e

pub host_closed : (b : Board) (starts ends counts : List ℕ) (first next i : ℕ) (t : Facts) →
    IsGraph b starts ends counts first → allows b (Close i) ≡ true → slice_get b.tasks i ≡ Some t → t.deferred ≡ false →
    IsFirst (set_at b i stage.Closed (b.place + 1)) next →
    IsGraph (set_at b i stage.Closed (b.place + 1)) starts ends counts next
host_closed b starts ends counts first next i t g a e d f =
    let m = may_close b i a in
    let lt : i < length b.stages = omega (arith, m.inside, g.counted.stages) in
    let o = closes.opened_at b starts counts i t g.counted m.stage_is e in
    let here : b.place ≡ i = o.1 d in
    record {
      starts = g.starts;
      ends = g.ends;
      counted = closes.host b starts counts i t g.counted a e d;
      ordered = ordered b i stage.Closed (b.place + 1) g.ordered lt (closes.was_open b i m.stage_is)
          (omega (arith, here, m.inside))
          (λ _ k p. g.ordered.begun k i (open_begun b i m.stage_is) p)
          (λ w le less q. absurd (no_barrier b i t e (inr o.0)
          (ap (is_barrier (plan_in b)) (sym (only_here b i w here le less)) ∙ q)));
      first = f;
    }

pub task_closed : (b : Board) (starts ends counts less : List ℕ) (first next i : ℕ) →
    IsGraph b starts ends counts first → allows b (Close i) ≡ true → length less ≡ length b.tasks →
    ((j : ℕ) → j < length b.tasks →
    slice_index less j + one_if (is_counted (plan_in b) (slice_index starts j) i j) ≡ slice_index counts j) →
    ((t : Facts) → slice_get b.tasks i ≡ Some t → t.deferred ≡ true) →
    IsFirst (set_at b i stage.Closed b.place) next →
    IsGraph (set_at b i stage.Closed b.place) starts ends less next
task_closed b starts ends counts less first next i g a long taken d f =
    let m = may_close b i a in
    let lt : i < length b.stages = omega (arith, m.inside, g.counted.stages) in
    record {
      starts = g.starts;
      ends = g.ends;
      counted = closes.task b starts counts less i g.counted a long taken d;
      ordered = ordered b i stage.Closed b.place g.ordered lt (closes.was_open b i m.stage_is) g.ordered.inside
          (λ _ k p. g.ordered.begun k i (open_begun b i m.stage_is) p)
          (λ w le more q. absurd (omega (arith, le, more)));
      first = f;
    }
