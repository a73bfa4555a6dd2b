-- Which task may be opened next.
use Rattle.std.proofs.Common.{◌≡◌, ◌⊎◌, inl, inr, ℕ, ◌<◌, ◌≤◌, Bool, true, false, List, Option, Some, None, length, max, refl, sym, ap, ◌∙◌, arith}
use Rattle.std.specs.Prelude.{IfNone, IfSome, slice_get}
use Rattle.std.proofs.lemmas.Bool.{cases_lt}
use Rattle.std.proofs.lemmas.Option.{slice_get_within}
use Rattle.base.specs.Items.{Work, Plan}
use Rattle.base.specs.Machine.{State, enabled, on_item}
use Rattle.base.specs.declared.item.Event.TheVariants.{Open}
use Rattle.taskgraph.specs.Board.{Board, HasNoTask, IsNextTask, IsTask, Stands, plan_in, state_in}
use Rattle.taskgraph.specs.Marks.{IsNext, is_marked}
use Rattle.taskgraph.specs.Waiting.{IsGraphWith}
use Rattle.taskgraph.proofs.Choosable.{marked_task, task_marked}
use Rattle.taskgraph.proofs.Laws.{on_same}
use Rattle.taskgraph.proofs.Settled.{settled_below}

-- none of those below the first that is left may be opened
none_below : (b : Board) (starts ends counts : List ℕ) (first : ℕ) (os rs : List Bool) (j : ℕ) →
    IsGraphWith b starts ends counts first os rs → j < first → IsTask (plan_in b) (state_in b) j → ⊥
none_below b starts ends counts first os rs j g lt t =
    let bad : false ≡ true = sym (settled_below b starts ends counts first j g.graph lt).0 ∙ t.1 in cc

-- nor is one that is not marked
none_unmarked : (b : Board) (starts ends counts : List ℕ) (first : ℕ) (os rs : List Bool) (j : ℕ) →
    IsGraphWith b starts ends counts first os rs → is_marked rs j ≡ false → IsTask (plan_in b) (state_in b) j → ⊥
none_unmarked b starts ends counts first os rs j g e t =
    let bad : false ≡ true = sym e ∙ task_marked b starts ends counts first os rs j g t in cc

-- the next marked item is the next task, which is sought from the first that is left on
pub next_marked : (b : Board) (starts ends counts : List ℕ) (first from start : ℕ) (os rs : List Bool)
    (o : Option ℕ) → IsGraphWith b starts ends counts first os rs → start ≡ max from first → IsNext rs start o →
    IfSome o (IsNextTask (plan_in b) (state_in b) from) × IfNone o (HasNoTask (plan_in b) (state_in b) from)
next_marked b starts ends counts first from start os rs None g e h = (tt, λ j le t. go j le t (cases_lt j first))
  where
    go : (j : ℕ) → from ≤ j → IsTask (plan_in b) (state_in b) j → (j < first) ⊎ (first ≤ j) → ⊥
    go j le t (inl lt) = none_below b starts ends counts first os rs j g lt t
    go j le t (inr past) = none_unmarked b starts ends counts first os rs j g (h j (omega (arith, e, le, past))) t
next_marked b starts ends counts first from start os rs (Some i) g e h = (
  record {
    from = omega (arith, e, h.0);
    task = marked_task b starts ends counts first os rs i g h.1;
    lowest = λ j le lt t. go j le lt t (cases_lt j first);
  },
  tt,
)
  where
    go : (j : ℕ) → from ≤ j → j < i → IsTask (plan_in b) (state_in b) j → (j < first) ⊎ (first ≤ j) → ⊥
    go j le lt t (inl less) = none_below b starts ends counts first os rs j g less t
    go j le lt t (inr past) =
        none_unmarked b starts ends counts first os rs j g (h.2 j (omega (arith, e, le, past)) lt) t

-- ---- of which states this is said

-- the tasks of a state that the graph stands for are deferred where its own are
pub deferred_there : (plan : Plan) (s : State) (b : Board) (i : ℕ) → Stands plan s b →
    on_item (plan_in b) i false (λ w. w.deferred) ≡ on_item plan i false (λ w. w.deferred)
deferred_there plan s b i h =
    sym (on_same plan b i false (λ w. w.deferred) (λ w. w.deferred) h.items (λ w _. refl))

-- one state has the tasks that may be opened of another
pub record AreTasks (p : Plan) (s : State) (q : Plan) (t : State) : Type 0 where
  pub deferred : (i : ℕ) → on_item p i false (λ w. w.deferred) ≡ on_item q i false (λ w. w.deferred)
  pub opens : (i : ℕ) → enabled p s (Open i) ≡ enabled q t (Open i)

-- what may be opened of the other may be of the one
task_back : (p : Plan) (s : State) (q : Plan) (t : State) (i : ℕ) → AreTasks p s q t → IsTask q t i → IsTask p s i
task_back p s q t i h k = (h.deferred i ∙ k.0, h.opens i ∙ k.1)

-- the next one is the same
pub next_there : (p : Plan) (s : State) (q : Plan) (t : State) (n i : ℕ) → AreTasks p s q t → IsNextTask p s n i →
    IsNextTask q t n i
next_there p s q t n i h k =
    record {
      from = k.from;
      task = (sym (h.deferred i) ∙ k.task.0, sym (h.opens i) ∙ k.task.1);
      lowest = λ j le lt e. k.lowest j le lt (task_back p s q t j h e);
    }

-- and where one has none, the other has none
pub none_there : (p : Plan) (s : State) (q : Plan) (t : State) (n : ℕ) → AreTasks p s q t → HasNoTask p s n → HasNoTask q t n
none_there p s q t n h k j le e = k j le (task_back p s q t j h e)

-- a task is one of the items
pub task_inside : (p : Plan) (s : State) (i : ℕ) → IsTask p s i → i < length p.items
task_inside p s i t = go (slice_get p.items i) refl
  where
    go : (o : Option Work) → slice_get p.items i ≡ o → i < length p.items
    go (Some w) e = slice_get_within p.items i w e
    go None e =
        let bad : false ≡ true = sym (ap (λ (o : Option Work). elim o [ None ↦ false | Some w ↦ w.deferred ]) e) ∙ t.0 in absurd cc
