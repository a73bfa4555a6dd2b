-- What the events that open, close, generate and pass change on the graph, and what it then stands for.
use Rattle.std.proofs.Common.{◌≡◌, ℕ, ◌+◌, ◌<◌, Bool, true, false, List, [], ◌∷◌, length, map, Option, Some, None, refl, sym, ap, ◌∙◌, subst}
use Rattle.std.specs.Prelude.{◌==◌, if◌then◌else◌, option_map, slice_get}
use Rattle.base.specs.declared.item.Event.TheVariants as event
use Rattle.base.specs.Items.{Work, Plan}
use Rattle.base.specs.Map.{Fill, memories_at}
use Rattle.base.specs.Machine.{Condition, Generated, Opened, Closed, Passed, State, closing, moved_on, open_item, with_condition}
use Rattle.fine_machine.specs.Machine.{State as Fine, Condition as Fine_condition, as_whole, whole_condition}
use Rattle.taskgraph.specs.declared.Stage.{Stage}
use Rattle.taskgraph.specs.declared.Stage.TheVariants as stage
use Rattle.taskgraph.specs.Board.{Board, Facts, Follows, Stands, allows, condition_of, facts_of, plan_in, stage_at, stage_of, state_in, work_of}
use Rattle.taskgraph.proofs.Kept.{may_close, may_open}
use Rattle.taskgraph.proofs.Standing.{place_after}
use Rattle.stepper.proofs.GraphItems.{closes_so, on_task, opens_so}

-- ---- the graph stands for its own state

facts_again : (fs : List Facts) → map facts_of (map work_of fs) ≡ fs
facts_again [] = refl
facts_again (f ∷ rest) = ap (λ xs. f ∷ xs) (facts_again rest)

stage_again : (st : Stage) → stage_of (condition_of st) ≡ st
stage_again stage.Untouched = refl
stage_again stage.Generated = refl
stage_again stage.Open = refl
stage_again stage.Closed = refl
stage_again stage.Passed = refl

own : (b : Board) → Stands (plan_in b) (state_in b) b
own b = record {
  items = facts_again b.tasks;
  place = refl;
  conditions = λ i lt. stage_again (stage_at b i);
}

no_fill : ℕ → Fill
no_fill i = λ c. 0

-- ---- one item is at another stage

-- item i is at this stage, and the host at this place; the other items are as they were
pub record Becomes (b : Board) (i : ℕ) (st : Stage) (n : ℕ) (after : Board) : Type 0 where
  pub tasks : b.tasks ≡ after.tasks
  pub place : n ≡ after.place
  pub stages : (j : ℕ) → j < length b.tasks → (if j == i then st else stage_at b j) ≡ stage_at after j

becomes : (b : Board) (i : ℕ) (c : Condition) (n : ℕ) (after : Board) (t : State) → t.place ≡ n →
    t.condition ≡ (λ j. if j == i then c else condition_of (stage_at b j)) → Stands (plan_in b) t after →
    Becomes b i (stage_of c) n after
becomes b i c n after t place condition h =
    let tasks : b.tasks ≡ after.tasks = sym (facts_again b.tasks) ∙ h.items in record {
      tasks = tasks;
      place = sym place ∙ h.place;
      stages = λ j lt.
          sym (ap (λ (f : ℕ → Condition). stage_of (f j)) condition ∙ at (j == i) (stage_at b j))
          ∙ h.conditions j (subst (λ (fs : List Facts). j < length fs) tasks lt);
    }
  where
    at : (v : Bool) (st : Stage) → stage_of (if v then c else condition_of st) ≡ (if v then stage_of c else st)
    at true st = refl
    at false st = stage_again st

pub generates : (b after : Board) (i : ℕ) → Follows b (event.Gen i) after → Becomes b i stage.Generated (b.place + 1) after
generates b after i follows =
    becomes b i (Generated (λ x. 0)) (b.place + 1) after _ refl refl
    (follows (plan_in b) no_fill (state_in b) _ (own b) refl)

pub passes : (b after : Board) (i : ℕ) → Follows b (event.Wait i) after → Becomes b i stage.Passed (b.place + 1) after
passes b after i follows =
    becomes b i Passed (b.place + 1) after _ refl refl (follows (plan_in b) no_fill (state_in b) _ (own b) refl)

pub opens : (b after : Board) (i : ℕ) → allows b (event.Open i) ≡ true → Follows b (event.Open i) after →
    Becomes b i stage.Open b.place after
opens b after i allowed follows =
    let may = may_open b i allowed in
    let s = state_in b in
    let m = memories_at 0 s.memories in
    becomes b i (Opened _ _) b.place after _ refl refl
    (follows (plan_in b) no_fill s _ (own b)
    (on_task b i may.facts None (λ w. open_item (plan_in b) (no_fill i) i w s) may.is
    ∙ ap (option_map _) (opens_so (no_fill i) may.facts may.facts.kind m)))

pub record Closes (b : Board) (i : ℕ) (after : Board) : Type 0 where
  pub facts : Facts
  pub is : slice_get b.tasks i ≡ Some facts
  pub becomes : Becomes b i stage.Closed (place_after facts.deferred b.place) after

pub closes : (b after : Board) (i : ℕ) → allows b (event.Close i) ≡ true → Follows b (event.Close i) after →
    Closes b i after
closes b after i allowed follows =
    let may = may_close b i allowed in
    let s = state_in b in
    let f = may.facts in
    let ended = λ (w : Work) (o : Option State). option_map (λ t. moved_on w.deferred (with_condition i Closed t)) o in record {
      facts = f;
      is = may.is;
      becomes = moved f.deferred
          (follows (plan_in b) no_fill s _ (own b)
          (on_task b i f None (λ w. ended w (closing w (s.condition i) s)) may.is
          ∙ ap (λ st. ended (work_of f) (closing (work_of f) (condition_of st) s)) may.stage_is
          ∙ ap (ended (work_of f)) (closes_so f f.kind (λ x. 0) (λ c. None) s)));
    }
  where
    moved : (d : Bool) → Stands (plan_in b) (moved_on d (with_condition i Closed (state_in b))) after →
        Becomes b i stage.Closed (place_after d b.place) after
    moved true h = becomes b i Closed b.place after _ refl refl h
    moved false h = becomes b i Closed (b.place + 1) after _ refl refl h

-- ---- what the graph then stands for

pub stands_after : (plan : Plan) (s t : Fine) (p i n : ℕ) (st : Stage) (b after : Board) (c : Fine_condition) →
    Stands plan (record (as_whole s) { place = p }) b → Becomes b i st n after → stage_of (whole_condition c) ≡ st →
    t.condition ≡ (λ j. if j == i then c else s.condition j) →
    Stands plan (record (as_whole t) { place = after.place }) after
stands_after plan s t p i n st b after c h is same condition = record {
  items = h.items ∙ is.tasks;
  place = refl;
  conditions = λ j lt.
      let inside = subst (λ (fs : List Facts). j < length fs) (sym is.tasks) lt in
      ap (λ (f : ℕ → Fine_condition). stage_of (whole_condition (f j))) condition
      ∙ at j (j == i) (h.conditions j inside) ∙ is.stages j inside;
}
  where
    at : (j : ℕ) (v : Bool) → stage_of (whole_condition (s.condition j)) ≡ stage_at b j →
        stage_of (whole_condition (if v then c else s.condition j)) ≡ (if v then st else stage_at b j)
    at j true e = same
    at j false e = e
