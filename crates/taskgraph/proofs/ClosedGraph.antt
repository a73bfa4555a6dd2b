-- A graph of which an item is closed, from its fields.
use Rattle.std.proofs.Common.{◌≡◌, ℕ, ◌+◌, ◌<◌, ◌≤◌, Bool, true, false, List, ◌++◌, length, map, take, drop, get_or, Some, sym, ap, ◌∙◌, arith}
use Rattle.std.specs.Prelude.{slice_get, slice_index, option_map}
use Rattle.std.specs.List.{slice_set}
use Rattle.std.proofs.Math.Seq.{take-append_seam}
use Rattle.std.proofs.lemmas.List.{length-map}
use Rattle.std.proofs.lemmas.Option.{slice_get-map, slice_get-get_or, same_Some}
use Rattle.base.specs.declared.item.Event.TheVariants.{Close}
use Rattle.base.specs.Map.{Fill}
use Rattle.base.specs.Items.{Work, Plan}
use Rattle.base.specs.Machine.{State, on_item, step}
use Rattle.taskgraph.specs.declared.Stage.{Stage}
use Rattle.taskgraph.specs.declared.Stage.TheVariants as stage
use Rattle.taskgraph.specs.declared.Task.{Task}
use Rattle.taskgraph.specs.Board.{Facts, Stands, task_facts, work_of, plan_in, allows}
use Rattle.taskgraph.specs.Waiting.{IsCounted, IsFirst, IsGraph, IsGraphWith, AreFree, board_of, counted_in, one_if}
use Rattle.taskgraph.proofs.Parts.{asked_at}
use Rattle.taskgraph.proofs.Kept.{may_close}
use Rattle.taskgraph.proofs.Closes.{in_count, opened_at}
use Rattle.taskgraph.proofs.Events.{host_closed, task_closed}
use Rattle.taskgraph.proofs.FreeGraph.{closed_open, closed_free}
use Rattle.taskgraph.proofs.Standing.{place_after, closed}

-- what the order asks of one of the tasks
pub facts_at : (ts : List Task) (i : ℕ) (t : Task) → slice_get ts i ≡ Some t →
    slice_get (map task_facts ts) i ≡ Some (task_facts t)
facts_at ts i t e = slice_get-map task_facts ts i ∙ ap (option_map task_facts) e

-- as many of each as there are tasks
pub record AsMany (ts : List Task) (ss : List Stage) (begins lasts missing : List ℕ) : Type 0 where
  pub stages : length ss ≡ length ts
  pub starts : length begins ≡ length ts
  pub ends : length lasts ≡ length ts
  pub counts : length missing ≡ length ts

pub as_many : (ts : List Task) (ss : List Stage) (place : ℕ) (starts ends counts : List ℕ) (first : ℕ) →
    IsGraph (board_of ts ss place) starts ends counts first → AsMany ts ss starts ends counts
as_many ts ss place starts ends counts first g =
    let tasks = length-map ts task_facts in
    let works = length-map (map task_facts ts) work_of ∙ tasks in
    record {
      stages = g.counted.stages ∙ tasks;
      starts = g.starts.0 ∙ works;
      ends = g.ends.same ∙ works;
      counts = g.counted.same ∙ tasks;
    }

pub in_counts : (ts : List Task) (ss : List Stage) (place : ℕ) (starts counts : List ℕ) (i : ℕ) →
    IsCounted (board_of ts ss place) starts counts → allows (board_of ts ss place) (Close i) ≡ true → (j : ℕ) → j < length ts →
    one_if (counted_in ts starts i j) ≤ slice_index counts j
in_counts ts ss place starts counts i h a j lt = in_count (board_of ts ss place) starts counts i j h a (omega (arith, lt, length-map ts task_facts))

pub host_left : (ts : List Task) (ss : List Stage) (place : ℕ) (starts ends counts : List ℕ) (first next i : ℕ) (t : Task) →
    IsGraph (board_of ts ss place) starts ends counts first → allows (board_of ts ss place) (Close i) ≡ true →
    slice_get ts i ≡ Some t → t.deferred ≡ false → IsFirst (board_of ts (slice_set ss i stage.Closed) (place + 1)) next →
    IsGraph (board_of ts (slice_set ss i stage.Closed) (place + 1)) starts ends counts next
host_left ts ss place starts ends counts first next i t g a e d f =
    host_closed (board_of ts ss place) starts ends counts first next i (task_facts t) g a (facts_at ts i t e) d f

pub task_left : (ts : List Task) (ss : List Stage) (place : ℕ) (starts ends counts less : List ℕ) (first next i : ℕ) (t : Task) →
    IsGraph (board_of ts ss place) starts ends counts first → allows (board_of ts ss place) (Close i) ≡ true →
    slice_get ts i ≡ Some t → t.deferred ≡ true → length less ≡ length ts →
    ((j : ℕ) → j < length ts → slice_index less j + one_if (counted_in ts starts i j) ≡ slice_index counts j) →
    IsFirst (board_of ts (slice_set ss i stage.Closed) place) next →
    IsGraph (board_of ts (slice_set ss i stage.Closed) place) starts ends less next
task_left ts ss place starts ends counts less first next i t g a e d long taken f =
    task_closed (board_of ts ss place) starts ends counts less first next i g a (long ∙ sym (length-map ts task_facts))
    (λ j lt. taken j (omega (arith, lt, length-map ts task_facts)))
    (λ v q. ap (λ (w : Facts). w.deferred) (same_Some v (task_facts t) (sym q ∙ facts_at ts i t e)) ∙ d) f

-- with its marks: where the item is not deferred, those of the ready items stay
pub host_with : (ts : List Task) (ss : List Stage) (place : ℕ) (starts ends counts : List ℕ) (first next i : ℕ)
    (os rs : List Bool) (t : Task) →
    IsGraphWith (board_of ts ss place) starts ends counts first os rs → allows (board_of ts ss place) (Close i) ≡ true →
    slice_get ts i ≡ Some t → t.deferred ≡ false → IsFirst (board_of ts (slice_set ss i stage.Closed) (place + 1)) next →
    IsGraphWith (board_of ts (slice_set ss i stage.Closed) (place + 1)) starts ends counts next (slice_set os i false) rs
host_with ts ss place starts ends counts first next i os rs t g a e d f =
    record {
      graph = host_left ts ss place starts ends counts first next i t g.graph a e d f;
      opened = closed_open (board_of ts ss place) starts ends counts first i (place + 1) os rs g a;
      ready = closed_free (board_of ts ss place) starts ends counts first i os rs g a;
    }

-- and where it is, they are those by the counts that were taken down
pub task_with : (ts : List Task) (ss : List Stage) (place : ℕ) (starts ends counts less : List ℕ) (first next i : ℕ)
    (os rs freed : List Bool) (t : Task) →
    IsGraphWith (board_of ts ss place) starts ends counts first os rs → allows (board_of ts ss place) (Close i) ≡ true →
    slice_get ts i ≡ Some t → t.deferred ≡ true → length less ≡ length ts →
    ((j : ℕ) → j < length ts → slice_index less j + one_if (counted_in ts starts i j) ≡ slice_index counts j) →
    AreFree (map task_facts ts) (slice_set ss i stage.Closed) less freed →
    IsFirst (board_of ts (slice_set ss i stage.Closed) place) next →
    IsGraphWith (board_of ts (slice_set ss i stage.Closed) place) starts ends less next (slice_set os i false) freed
task_with ts ss place starts ends counts less first next i os rs freed t g a e d long taken free f =
    record {
      graph = task_left ts ss place starts ends counts less first next i t g.graph a e d long taken f;
      opened = closed_open (board_of ts ss place) starts ends counts first i place os rs g a;
      ready = free;
    }

pub host_follows : (ts : List Task) (ss : List Stage) (place : ℕ) (starts counts : List ℕ) (i : ℕ) (t : Task) →
    IsCounted (board_of ts ss place) starts counts → allows (board_of ts ss place) (Close i) ≡ true → slice_get ts i ≡ Some t →
    t.deferred ≡ false → (plan : Plan) (fill : ℕ → Fill) (s u : State) → Stands plan s (board_of ts ss place) →
    step plan fill s (Close i) ≡ Some u → Stands plan u (board_of ts (slice_set ss i stage.Closed) (place + 1))
host_follows ts ss place starts counts i t h a e d plan fill s u st q =
    let m = may_close (board_of ts ss place) i a in
    closed plan s u (board_of ts ss place) i (task_facts t) (place + 1) st q (facts_at ts i t e)
    (omega (arith, m.inside, h.stages)) h.stages (ap (λ c. place_after c place) (sym d))

pub task_follows : (ts : List Task) (ss : List Stage) (place : ℕ) (starts counts : List ℕ) (i : ℕ) (t : Task) →
    IsCounted (board_of ts ss place) starts counts → allows (board_of ts ss place) (Close i) ≡ true → slice_get ts i ≡ Some t →
    t.deferred ≡ true → (plan : Plan) (fill : ℕ → Fill) (s u : State) → Stands plan s (board_of ts ss place) →
    step plan fill s (Close i) ≡ Some u → Stands plan u (board_of ts (slice_set ss i stage.Closed) place)
task_follows ts ss place starts counts i t h a e d plan fill s u st q =
    let m = may_close (board_of ts ss place) i a in
    closed plan s u (board_of ts ss place) i (task_facts t) place st q (facts_at ts i t e)
    (omega (arith, m.inside, h.stages)) h.stages (ap (λ c. place_after c place) (sym d))

-- the host's place is that of the item
pub host_here : (ts : List Task) (ss : List Stage) (place : ℕ) (starts counts : List ℕ) (i : ℕ) (t : Task) →
    IsCounted (board_of ts ss place) starts counts → allows (board_of ts ss place) (Close i) ≡ true → slice_get ts i ≡ Some t →
    t.deferred ≡ false → place ≡ i
host_here ts ss place starts counts i t h a e d =
    let m = may_close (board_of ts ss place) i a in
    (opened_at (board_of ts ss place) starts counts i (task_facts t) h m.stage_is (facts_at ts i t e)).1 d

pub written_back : (new old : List ℕ) (n : ℕ) → n ≡ length old → length new ≡ length old →
    take n (new ++ drop (length new) old) ≡ new
written_back new old n e f =
    ap (λ m. take m (new ++ drop (length new) old)) (e ∙ sym f) ∙ take-append_seam new (drop (length new) old)

-- a question to one of the tasks
pub asked : (ts : List Task) (ss : List Stage) (place i : ℕ) (g : Work → Bool) (t : Task) → i < length ts →
    t ≡ get_or ts i t → g (work_of (task_facts t)) ≡ on_item (plan_in (board_of ts ss place)) i false g
asked ts ss place i g t lt e =
    asked_at (board_of ts ss place) i g (task_facts t)
    (facts_at ts i t (slice_get-get_or ts i t lt ∙ ap (λ (x : Task). Some x) (sym e)))
