-- A task graph as a state of the machine with two memories.
use Rattle.std.specs.Prelude.{◌≡◌, ℕ, ◌<◌, ◌≤◌, Bool, true, false, List, [], filter, map, Some, None, length}
use Rattle.std.specs.List.{range_with_len, slice_index_or}
use Rattle.base.specs.declared.item.Event.{Event}
use Rattle.base.specs.declared.item.Event.TheVariants.{Open, Close}
use Rattle.base.specs.declared.item.Item.{Item}
use Rattle.base.specs.declared.item.ItemKind.{ItemKind}
use Rattle.base.specs.declared.item.Depend.{Depend}
use Rattle.base.specs.Items.{Work, Plan}
use Rattle.base.specs.Map.{Fill}
use Rattle.base.specs.Machine.{Condition, Untouched, Generated, Opened, Closed, Passed, State, start, enabled, on_item, step}
use Rattle.taskgraph.specs.declared.Stage.{Stage}
use Rattle.taskgraph.specs.declared.Stage.TheVariants as stage
use Rattle.taskgraph.specs.declared.Task.{Task}

-- what the order asks of an item
pub record Facts : Type 0 where
  pub kind : ItemKind
  pub deferred : Bool
  pub depends : List Depend

abbrev pub facts_of : Work → Facts
facts_of w = record { kind = w.kind; deferred = w.deferred; depends = w.depends }

abbrev pub item_facts : Item → Facts
item_facts it = record { kind = it.kind; deferred = it.deferred; depends = it.depends.items }

abbrev pub task_facts : Task → Facts
task_facts t = record { kind = t.kind; deferred = t.deferred; depends = t.depends.items }

-- an item with no more than that
abbrev pub work_of : Facts → Work
work_of f = record {
  kind = f.kind;
  place = record { line = 0; column = 0 };
  deferred = f.deferred;
  device = 0;
  maps = [];
  depends = f.depends;
  region = None;
  loops = [];
}

-- how far each item is, and where the host stands
pub record Board : Type 0 where
  pub tasks : List Facts
  pub stages : List Stage
  pub place : ℕ

abbrev pub condition_of : Stage → Condition
condition_of stage.Untouched = Untouched
condition_of stage.Generated = Generated (λ x. 0)
condition_of stage.Open = Opened (λ x. 0) (λ c. None)
condition_of stage.Closed = Closed
condition_of stage.Passed = Passed

abbrev pub stage_of : Condition → Stage
stage_of Untouched = stage.Untouched
stage_of (Generated captured) = stage.Generated
stage_of (Opened captured snapshot) = stage.Open
stage_of Closed = stage.Closed
stage_of Passed = stage.Passed

abbrev pub stage_at : Board → ℕ → Stage
stage_at b i = slice_index_or b.stages i stage.Untouched

abbrev pub plan_in : Board → Plan
plan_in b = record { lengths = []; items = map work_of b.tasks }

abbrev pub state_in : Board → State
state_in b = record (start []) { place = b.place; condition = λ i. condition_of (stage_at b i) }

-- whether an event may happen next, by the machine's own rule
abbrev pub allows : Board → Event → Bool
allows b e = enabled (plan_in b) (state_in b) e

-- an item may neither be opened next nor closed
abbrev pub IsSettled : Board → ℕ → Type 0
IsSettled b i = (allows b (Open i) ≡ false) × (allows b (Close i) ≡ false)

-- ---- which task may be opened next

-- a deferred item that may be opened next
abbrev pub IsTask : Plan → State → ℕ → Type 0
IsTask p s i = (on_item p i false (λ w. w.deferred) ≡ true) × (enabled p s (Open i) ≡ true)

-- item i is the lowest such one, from item n on
pub record IsNextTask (p : Plan) (s : State) (n i : ℕ) : Type 0 where
  pub from : n ≤ i
  pub task : IsTask p s i
  pub lowest : (j : ℕ) → n ≤ j → j < i → IsTask p s j → ⊥

-- from item n on there is none
abbrev pub HasNoTask : Plan → State → ℕ → Type 0
HasNoTask p s n = (j : ℕ) → n ≤ j → IsTask p s j → ⊥

-- ---- what may be closed, and what may be opened

-- the items that may be closed next, ascending
abbrev pub all_closings : Board → List ℕ
all_closings b = filter (λ i. allows b (Close i)) (range_with_len 0 (length b.tasks))

-- the items that may be opened next, ascending
abbrev pub all_openings : Board → List ℕ
all_openings b = filter (λ i. allows b (Open i)) (range_with_len 0 (length b.tasks))

-- the tasks before any event
abbrev pub untouched : List Facts → Board
untouched tasks = record { tasks = tasks; stages = []; place = 0 }

-- ---- of which states of which plan the graph tells the order

pub record Stands (plan : Plan) (s : State) (b : Board) : Type 0 where
  pub items : map facts_of plan.items ≡ b.tasks
  pub place : s.place ≡ b.place
  pub conditions : (i : ℕ) → i < length b.tasks → stage_of (s.condition i) ≡ stage_at b i

-- the graph of these items, of which no event has happened
abbrev pub IsNew : List Item → Board → Type 0
IsNew its b = (plan : Plan) (input : List ℕ) → map facts_of plan.items ≡ map item_facts its → Stands plan (start input) b

-- where an event happens in a state that the graph stands for, it stands for the state after it
abbrev pub Follows : Board → Event → Board → Type 0
Follows b e after = (plan : Plan) (fill : ℕ → Fill) (s t : State) → Stands plan s b → step plan fill s e ≡ Some t →
    Stands plan t after
