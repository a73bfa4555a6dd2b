-- The action that an open item asks for next, in a state that is shown.
use Rattle.std.proofs.Common.{◌≡◌, ◌<◌, ℕ, length, Bool, true, false, List, Option, Some, None, refl, sym, ap, ◌∙◌, subst}
use Rattle.std.specs.Prelude.{slice_get, nat_lt, ◌+◌, option_map}
use Rattle.std.proofs.lemmas.Bool.{false≢true}
use Rattle.std.proofs.lemmas.Option.{slice_get_within}
use Rattle.base.specs.declared.item.Event.TheVariants.{Step}
use Rattle.host_memory.specs.declared.memory.Memory.{Memory as Arrays}
use Rattle.host_memory.specs.Arrays.{lengths_of}
use Rattle.base.specs.Items.{Plan, Work}
use Rattle.base.specs.Map.{Fill, Memories, in_use, memories_at}
use Rattle.base.specs.Memory.{Memory, is_cell}
use Rattle.two_memories.proofs.PlanItems.{at_item, on_true}
use Rattle.fine_machine.specs.Action.{act}
use Rattle.fine_machine.specs.Left.{Answer, Asks, Finished, Left, Request}
use Rattle.fine_machine.specs.Machine.{Condition, Untouched, Generated, Opened, Closed, Passed, State, device_of, enabled, has_step, step, step_item, with_condition, with_memories}
use Rattle.present.specs.Table.{fill_of, memories}
use Rattle.present.specs.declared.Table.{Table}
use Rattle.device.specs.Devices.{table_at}
use Rattle.actions.specs.Acting.{InHost}
use Rattle.actions.specs.Control.{IsNext, left_of, on_host}
use Rattle.actions.specs.Strand.{request_of, side_of}
use Rattle.actions.specs.Opening.{Goes, IsInside, StaysInside}
use Rattle.stepper.specs.Standing.{IsAt, IsControl, IsOnDevice, IsOpen, Keeps, asked, fill_from, is_over, needs}
use Rattle.actions.specs.declared.action.Action.{Action}
use Rattle.actions.specs.declared.action.Action.TheVariants as action
use Rattle.actions.specs.declared.control.Control.{Control}
use Rattle.stepper.specs.declared.standing.Slot.TheVariants as slot
use Rattle.stepper.specs.declared.standing.Standing.{Standing}

-- an item of the plan is open, and asks for this next
pub record IsAsked (plan : Plan) (s : State) (i : ℕ) (request : Request) (control : Control) : Type 0 where
  pub work : Work
  pub is : slice_get plan.items i ≡ Some work
  pub k : Answer → Left
  pub condition : s.condition i ≡ Opened (Asks request k)
  pub left : left_of control ≡ Asks request k
  pub inside : StaysInside plan.lengths (Asks request k)

pub asked_next : (plan : Plan) (s : State) (i : ℕ) (now : Standing) (control : Control) (a : Action) → IsAt plan now s →
    slice_get now.slots.items i ≡ Some (slot.Opened control) → IsNext control (Some a) →
    enabled plan s (Step i) ≡ true → IsAsked plan s i (request_of (side_of (on_host control)) a) control
asked_next plan s i now control a at held next may =
    let w = on_true plan i (λ w. has_step (s.condition i)) may in
    go w.0 w.1 (s.condition i) refl w.2 (at.kept i (within w.0 w.1))
  where
    within : (w : Work) → slice_get plan.items i ≡ Some w → i < length plan.items
    within w is = slice_get_within plan.items i w is

    go : (w : Work) → slice_get plan.items i ≡ Some w → (c : Condition) → s.condition i ≡ c → has_step c ≡ true →
        Keeps plan.lengths c (slice_get now.slots.items i) →
        IsAsked plan s i (request_of (side_of (on_host control)) a) control
    go w is (Opened (Asks r k)) e h kept =
        let own : IsControl plan.lengths (Asks r k) control = subst (IsOpen plan.lengths (Asks r k)) held kept in
        let same = own.is ∙ next.1.1 in record {
          work = w;
          is = is;
          k = next.1.0;
          condition = e ∙ ap Opened same;
          left = next.1.1;
          inside = subst (StaysInside plan.lengths) same own.inside;
        }
    go w is (Opened (Finished t)) e h kept = absurd (false≢true h)
    go w is Untouched e h kept = absurd (false≢true h)
    go w is (Generated captured) e h kept = absurd (false≢true h)
    go w is Closed e h kept = absurd (false≢true h)
    go w is Passed e h kept = absurd (false≢true h)

-- what is copied to the host lies there, and so does what follows from an answer
pub asks_inside : (lengths : List ℕ) (request : Request) (k : Answer → Left) → StaysInside lengths (Asks request k) →
    IsInside lengths request
asks_inside lengths _ _ (Goes request k inside rest) = inside

pub stays_inside : (lengths : List ℕ) (request : Request) (k : Answer → Left) → StaysInside lengths (Asks request k) →
    (r : Answer) → StaysInside lengths (k r)
stays_inside lengths _ _ (Goes request k inside rest) = rest

pub in_host : (lengths : List ℕ) (on_host : Bool) (a : Action) (host : Arrays) →
    IsInside lengths (request_of (side_of on_host) a) → lengths_of host ≡ lengths → InHost a host
in_host lengths on_host (action.CopyOut c) host inside e = subst (λ ls. is_cell ls c ≡ true) (sym e) inside
in_host lengths on_host (action.Load c) host inside e = tt
in_host lengths on_host (action.Store c n) host inside e = tt
in_host lengths on_host (action.Combine op c n) host inside e = tt
in_host lengths on_host (action.Enter item) host inside e = tt
in_host lengths on_host (action.Leave item) host inside e = tt
in_host lengths on_host (action.Remove section) host inside e = tt
in_host lengths on_host (action.CopyIn c) host inside e = tt

-- whether a request on device d is too much
abbrev over_at : ℕ → State → Option Request → ℕ → Bool
over_at capacity s o d = elim o [
  | None ↦ false
  | Some request ↦
      let blocks = (s.memories.devices d).blocks in nat_lt capacity (in_use blocks + needs request blocks)
]

module _ (plan : Plan) (s : State) (i d : ℕ) (request : Request) (control : Control)
    (h : IsAsked plan s i request control) (on : IsOnDevice plan i d) where
  device_is : device_of plan i ≡ d
  device_is = at_item plan i h.work h.is 0 (λ w. w.device) ∙ on h.work h.is

  pub over_is : (capacity : ℕ) →
      is_over capacity plan s i
      ≡ nat_lt capacity (in_use (s.memories.devices d).blocks + needs request (s.memories.devices d).blocks)
  over_is capacity =
      ap (λ (c : Condition). over_at capacity s (asked c) (device_of plan i)) h.condition
      ∙ ap (λ (e : ℕ). over_at capacity s (Some request) e) device_is

  -- the state after an answer, with what became of the memories
  abbrev pub after : Answer × Memories → State
  after p = with_condition i (Opened (h.k p.0)) (with_memories d p.1 s)

  pub step_is : (fill : ℕ → Fill) (order : ℕ → List ℕ) →
      step plan fill order s (Step i) ≡ option_map after (act plan.lengths (fill i) request (memories_at d s.memories))
  step_is fill order =
      ap (λ (c : Condition). step_item plan (fill i) i c s) h.condition
      ∙ ap (λ (e : ℕ). option_map (λ p. with_condition i (Opened (h.k p.0)) (with_memories e p.1 s))
      (act plan.lengths (fill i) request (memories_at e s.memories))) device_is

  -- the action on the memories that are shown is the one on what the code keeps
  pub act_is : (now : Standing) (t : Table) → IsAt plan now s → table_at now.devices d ≡ Some t →
      act plan.lengths (fill_from now i) request (memories_at d s.memories)
      ≡ act (lengths_of now.host) (fill_of t) request (memories now.host (s.memories.devices d))
  act_is now t at was =
      ap (λ (ls : List ℕ). act ls (fill_from now i) request (memories_at d s.memories)) (sym at.lengths)
      ∙ ap (λ (n : ℕ). act (lengths_of now.host) (λ c. n) request (memories_at d s.memories)) (sym (at.alike.fresh d t was))
      ∙ ap (λ (m : Memory). act (lengths_of now.host) (fill_of t) request
      (record { host = m; device = s.memories.devices d })) at.host
