-- What the sending end of the jobs knows of the run.
use Rattle.std.specs.Prelude.{◌≡◌, ℕ, true, List, length, map, Option, Some, None, slice_get}
use Rattle.std.specs.Coded.{Coded-set, coded_bool, coded_list, coded_ℕ, ×_prop, Π_prop, Unit-prop}
use Rattle.std.specs.List.{Contains}
use mathlib.Core.HLevel.{×₃_prop, ¬_prop}
use Rattle.base.specs.Items.{Work, plan}
use Rattle.base.specs.Machine.{HasEnded}
use Rattle.device.specs.declared.jobs.Job.{Job}
use Rattle.device.specs.Jobs.{statements_of}
use Rattle.device.specs.Run.{Run, issue_code, state_of}
use Rattle.device.specs.Same.{same_list}
use Rattle.device.specs.Standing.{Issue, frame_parts}
use Rattle.host.specs.Handing.{handed, open_for_workers}
use Rattle.host.specs.Stops.{IsOver, one_over}
use Rattle.host.specs.declared.board.Stop.{Stop}

-- the numbers of the items for workers that were opened, in order
abbrev pub handed_in : Run → List ℕ
handed_in r = handed (plan r.program) r.history

-- how many items for workers are open
abbrev pub open_count : Run → ℕ
open_count r = length (open_for_workers (plan r.program) (state_of r))

-- no cause to stop was met
abbrev pub IsGoing : Option Stop → Type 0
IsGoing None = Unit {0}
IsGoing (Some s) = ⊥

-- the number of the item of a job
abbrev pub item_of : Job → ℕ
item_of j = j.frame.item

-- where a frame is issued for the item of a job, it is that of the job; and the job has the statements of the item's region
abbrev pub IsOwn : Run → Job → Type 0
IsOwn r j =
    ((p : Issue) → slice_get r.issued j.frame.item ≡ Some (Some p) → p ≡ frame_parts j.frame)
    × ((w : Work) → slice_get (plan r.program).items j.frame.item ≡ Some w →
    same_list (statements_of w.region) j.code.now.body.items ≡ true)

-- the same of each of these jobs
abbrev pub AreOwn : Run → List Job → Type 0
AreOwn r jobs = (j : Job) → Contains jobs j → IsOwn r j

-- As long as the run goes on there is a sending end, and the jobs ever sent are of the items for workers that were opened,
-- and are what was issued for these. Where the run is over there is none
abbrev pub IsSent : Run → Option Stop → Option (List Job) → Type 0
IsSent r stop (Some sent) =
    IsGoing stop × (HasEnded (plan r.program) (state_of r) → ⊥) × ((map item_of sent ≡ handed_in r) × AreOwn r sent)
IsSent r stop None = IsOver stop r

one_going : (o : Option Stop) → IsProp (IsGoing o)
one_going None = Unit-prop
one_going (Some s) = λ x y. absurd x

one_own : (r : Run) (j : Job) → IsProp (IsOwn r j)
one_own r j =
    ×_prop (Π_prop (λ p. Π_prop (λ e. Coded-set issue_code p (frame_parts j.frame))))
    (Π_prop (λ w. Π_prop (λ e. Coded-set coded_bool (same_list (statements_of w.region) j.code.now.body.items) true)))

-- in at most one way
pub one_sent : (r : Run) (o : Option Stop) (sent : Option (List Job)) → IsProp (IsSent r o sent)
one_sent r o (Some sent) =
    ×₃_prop (one_going o) ¬_prop
    (×_prop (Coded-set (coded_list coded_ℕ) (map item_of sent) (handed_in r)) (Π_prop (λ j. Π_prop (λ c. one_own r j))))
one_sent r o None = one_over o r
