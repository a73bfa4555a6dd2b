-- How many predecessors of an item are not closed, and which of them are counted.
use Rattle.std.specs.Prelude.{◌≡◌, ◌⊎◌, ℕ, zero, suc, ◌+◌, ◌<◌, ◌≤◌, nat_le, Bool, true, false, not, ◌&&◌, ◌||◌, ◌==◌, if◌then◌else◌, List, Option, Some, None, length, map, slice_index, slice_get}
use Rattle.std.specs.List.{slice_index_or}
use Rattle.base.specs.Items.{Work, Plan}
use Rattle.base.specs.Machine.{is_closed, is_empty, is_open, is_wait, is_waiting, on_item, precedes}
use Rattle.taskgraph.specs.Board.{Facts, Board, plan_in, state_in, stage_at, condition_of, untouched, task_facts}
use Rattle.taskgraph.specs.Marks.{is_marked}
use Rattle.taskgraph.specs.declared.Task.{Task}
use Rattle.taskgraph.specs.declared.Stage.{Stage}
use Rattle.taskgraph.specs.declared.Stage.TheVariants as stage

-- a `taskwait` without depend items
abbrev pub is_bare : Work → Bool
is_bare w = is_wait w.kind && is_empty w.depends

abbrev pub is_bare_at : Plan → ℕ → Bool
is_bare_at p i = on_item p i false is_bare

-- one that the host passes only where all deferred items before it are closed
abbrev pub is_barrier : Plan → ℕ → Bool
is_barrier p i = on_item p i false (λ w. is_bare w && not w.deferred)

abbrev pub is_deferred : Plan → ℕ → Bool
is_deferred p i = on_item p i false (λ w. w.deferred)

-- ---- which predecessors are counted

-- item i is a predecessor of item j, and of those from here on
abbrev pub is_counted : Plan → ℕ → ℕ → ℕ → Bool
is_counted p start i j = nat_le start i && precedes p i j

-- a counted predecessor of item j waits for item i
pub record IsBehind (p : Plan) (start i j : ℕ) : Type 0 where
  pub item : ℕ
  pub counted : is_counted p start item j ≡ true
  pub waits : precedes p i item ≡ true

-- item j stands after a barrier, and that after item i
pub record IsBarred (p : Plan) (i j : ℕ) : Type 0 where
  pub item : ℕ
  pub after : i < item
  pub before : item < j
  pub barrier : is_barrier p item ≡ true

pub record IsStart (p : Plan) (j start : ℕ) : Type 0 where
  pub small : start ≤ j
  pub bare : is_bare_at p j ≡ true → start ≡ j
  pub law : (i : ℕ) → i < start → is_bare_at p j ≡ false → precedes p i j ≡ true →
      IsBehind p start i j ⊎ IsBarred p i j

abbrev pub AreStarts : Plan → List ℕ → Type 0
AreStarts p starts =
    (length starts ≡ length p.items) × ((j : ℕ) → j < length p.items → IsStart p j (slice_index starts j))

-- item j is noted for the predecessors that are counted, and for no other
pub record IsExtended (p : Plan) (start j : ℕ) (old new : List ℕ) : Type 0 where
  pub same : length new ≡ length old
  pub reached : (i : ℕ) → is_counted p start i j ≡ true → slice_index new i ≡ j + 1
  pub others : (i : ℕ) → (slice_index new i ≡ slice_index old i) ⊎ (slice_index new i ≡ j + 1)

-- of the first n items, those in whose counts an item is lie before its end
pub record AreEndsTo (p : Plan) (starts ends : List ℕ) (n : ℕ) : Type 0 where
  pub same : length ends ≡ length p.items
  pub small : (i : ℕ) → slice_index ends i ≤ n
  pub past : (i j : ℕ) → j < n → is_counted p (slice_index starts j) i j ≡ true → j < slice_index ends i

abbrev pub AreEnds : Plan → List ℕ → List ℕ → Type 0
AreEnds p starts ends = AreEndsTo p starts ends (length p.items)

-- ---- how many of them are not closed

-- item i is a counted predecessor of item j, and is not closed
abbrev pub holds_back : Board → ℕ → ℕ → ℕ → Bool
holds_back b start i j = is_counted (plan_in b) start i j && not (is_closed ((state_in b).condition i))

abbrev pub one_if : Bool → ℕ
one_if true = 1
one_if false = 0

-- how many of the first n items hold item j back
unfoldable pub held_by : Board → ℕ → ℕ → ℕ → ℕ
held_by b start j zero = 0
held_by b start j (suc n) = held_by b start j n + one_if (holds_back b start n j)

abbrev pub waits_for : Board → List ℕ → ℕ → ℕ
waits_for b starts j = held_by b (slice_index starts j) j j

abbrev pub IsOpenTask : Board → ℕ → Option Facts → Type 0
IsOpenTask b i None = ⊥
IsOpenTask b i (Some t) = (is_wait t.kind ≡ false) × (t.deferred ≡ false → b.place ≡ i) × (t.deferred ≡ true → i < b.place)

pub record IsCounted (b : Board) (starts counts : List ℕ) : Type 0 where
  pub stages : length b.stages ≡ length b.tasks
  pub same : length counts ≡ length b.tasks
  pub missing : (j : ℕ) → j < length b.tasks → slice_index counts j ≡ waits_for b starts j
  -- the host has passed what is generated and what is closed, and stands at an open item that is not deferred
  pub generated : (i : ℕ) → stage_at b i ≡ stage.Generated → i < b.place
  pub closed : (i : ℕ) → stage_at b i ≡ stage.Closed → i < b.place
  pub opened : (i : ℕ) → stage_at b i ≡ stage.Open → IsOpenTask b i (slice_get b.tasks i)

-- ---- what is closed

-- the deferred items before this one are closed
abbrev pub AreClosed : Board → ℕ → Type 0
AreClosed b n =
    (i : ℕ) → i < n → is_deferred (plan_in b) i ≡ true → is_closed ((state_in b).condition i) ≡ true

-- the lowest item that is deferred and not closed, or the host's place where none is before it
pub record IsFirst (b : Board) (first : ℕ) : Type 0 where
  pub inside : first ≤ b.place
  pub below : AreClosed b first
  pub left : first < b.place → is_deferred (plan_in b) first && not (is_closed ((state_in b).condition first)) ≡ true

abbrev pub is_begun : Stage → Bool
is_begun st = is_open (condition_of st) || is_closed (condition_of st)

-- what an item waited for is closed, where it was opened, or passed as a barrier
pub record IsOrdered (b : Board) : Type 0 where
  pub inside : b.place ≤ length b.tasks
  pub begun : (i j : ℕ) → is_begun (stage_at b j) ≡ true → precedes (plan_in b) i j ≡ true →
      is_closed ((state_in b).condition i) ≡ true
  pub barred : (w : ℕ) → w < b.place → is_barrier (plan_in b) w ≡ true → AreClosed b w

pub record IsGraph (b : Board) (ss es counts : List ℕ) (n : ℕ) : Type 0 where
  pub starts : AreStarts (plan_in b) ss
  pub ends : AreEnds (plan_in b) ss es
  pub counted : IsCounted b ss counts
  pub ordered : IsOrdered b
  pub first : IsFirst b n

-- an item at that stage may begin, where the host stands at it or not
abbrev pub begins : Facts → Stage → Bool → Bool
begins f st here = if is_wait f.kind then here else ((f.deferred || here) && is_waiting f.deferred (condition_of st))

-- ---- which are marked as open, and which as ready

-- the marks of so many items, set where the question is answered yes
pub record AreMarks (n : ℕ) (p : ℕ → Bool) (marks : List Bool) : Type 0 where
  pub long : length marks ≡ n
  pub each : (i : ℕ) → is_marked marks i ≡ p i

-- an item at that stage, of which so many counted predecessors are left, is deferred and may be opened
abbrev pub is_free : Facts → Stage → ℕ → Bool
is_free f st missing =
    (f.deferred && not (is_wait f.kind)) && (is_waiting true (condition_of st) && (missing == 0))

abbrev pub is_free_at : List Facts → List Stage → List ℕ → ℕ → Bool
is_free_at tasks stages counts i =
    elim (slice_get tasks i) [
      | None ↦ false
      | Some f ↦ is_free f (slice_index_or stages i stage.Untouched) (slice_index counts i)
    ]

abbrev pub AreFree : List Facts → List Stage → List ℕ → List Bool → Type 0
AreFree tasks stages counts marks = AreMarks (length tasks) (is_free_at tasks stages counts) marks

abbrev pub is_open_in : Board → ℕ → Bool
is_open_in b i = is_open ((state_in b).condition i)

-- a graph of which these items are open, and these deferred ones may be opened
pub record IsGraphWith (b : Board) (ss es counts : List ℕ) (n : ℕ) (os rs : List Bool) : Type 0 where
  pub graph : IsGraph b ss es counts n
  pub opened : AreMarks (length b.tasks) (is_open_in b) os
  pub ready : AreFree b.tasks b.stages counts rs

-- ---- of tasks

abbrev pub board_of : List Task → List Stage → ℕ → Board
board_of ts stages place = record { tasks = map task_facts ts; stages = stages; place = place }

abbrev pub plan_for : List Task → Plan
plan_for ts = plan_in (untouched (map task_facts ts))

abbrev pub counted_in : List Task → List ℕ → ℕ → ℕ → Bool
counted_in ts starts i j = is_counted (plan_for ts) (slice_index starts j) i j

-- so many stages of items that have not begun
abbrev pub AreUntouched : ℕ → List Stage → Type 0
AreUntouched n ss = (length ss ≡ n) × ((i : ℕ) → slice_index_or ss i stage.Untouched ≡ stage.Untouched)

-- what each task waits for before any event
abbrev pub AreCounts : List Task → List ℕ → List ℕ → Type 0
AreCounts ts starts counts = (length counts ≡ length ts) ×
    ((j : ℕ) → j < length ts → slice_index counts j ≡ waits_for (untouched (map task_facts ts)) starts j)
