-- The state after an action, which is shown where the action was done on what the code keeps.
use Rattle.std.proofs.Common.{◌≡◌, ◌<◌, ◌≤◌, ℕ, Bool, true, false, Option, Some, None, length, refl, sym, ap, ◌∙◌, subst, arith}
use Rattle.std.specs.Prelude.{◌==◌, IsSomeAnd, if◌then◌else◌, slice_get, slice_index, option_map}
use Rattle.std.proofs.lemmas.Bool.{cond-true, cond-false, eqb-true, false≢true}
use Rattle.base.specs.Map.{Device, Memories, memories_at}
use Rattle.taskgraph.specs.declared.Graph.{Graph}
use Rattle.taskgraph.specs.Board.{Stands, stage_at, stage_of}
use Rattle.fine_machine.specs.Action.{act}
use Rattle.fine_machine.specs.Left.{Answer, Request, Load, Store, Combine, Enter, Leave, Remove, CopyIn, CopyOut}
use Rattle.fine_machine.specs.Machine.{Condition, Opened, State, as_whole, whole_condition}
use Rattle.base.specs.Items.{Plan}
use Rattle.host_memory.specs.Arrays.{lengths_of}
use Rattle.present.specs.Table.{Are, fill_of, memories}
use Rattle.device.specs.Moves.{CountsAtMost}
use Rattle.device.proofs.Counts.{more}
use Rattle.device.proofs.Tables.{each_changed, show_all, still_alike}
use Rattle.actions.specs.Acting.{answer_of}
use Rattle.actions.specs.Control.{Answers, IsNext, IsStopped, on_host}
use Rattle.actions.specs.Strand.{request_of, side_of}
use Rattle.stepper.specs.Standing.{ActsOn, FollowsOn, IsAt, IsOnDevice, IsOpen, Keeps, fill_from, order_from, place_of}
use Rattle.actions.specs.declared.action.Action.{Action}
use Rattle.actions.specs.declared.action.Given.{Given}
use Rattle.actions.specs.declared.control.Control.{Control}
use Rattle.stepper.specs.declared.standing.Slot.TheVariants as slot
use Rattle.stepper.specs.declared.standing.Standing.{Standing}
use Rattle.base.specs.Machine.{is_open}
use Rattle.stepper.proofs.Places.{here_after}
use Rattle.stepper.proofs.ActCounts.{counted_after, entered_after}
use Rattle.stepper.proofs.NextActs.{IsAsked, act_is, after, asked_next, step_is, stays_inside}

-- the item has this control now, and beside the memories only the number of entries is another one
pub record IsMoved (i : ℕ) (request : Request) (control : Control) (old new : Standing) : Type 0 where
  pub graph : new.graph ≡ old.graph
  pub ended : new.ended ≡ old.ended
  pub scalars : new.scalars ≡ old.scalars
  pub input : new.input ≡ old.input
  pub output : new.output ≡ old.output
  pub entered : new.entered ≡ entered_after request old.entered
  pub slots : length new.slots.items ≡ length old.slots.items
  pub here : slice_get new.slots.items i ≡ Some (slot.Opened control)
  pub others : (k : ℕ) → (k == i) ≡ false → slice_get new.slots.items k ≡ slice_get old.slots.items k

more_entered : (request : Request) (n : ℕ) → n ≤ entered_after request n
more_entered (Enter item) n = omega arith
more_entered (Load side c) n = omega arith
more_entered (Store side c v) n = omega arith
more_entered (Combine side op c v) n = omega arith
more_entered (Leave item) n = omega arith
more_entered (Remove s) n = omega arith
more_entered (CopyIn c) n = omega arith
more_entered (CopyOut c) n = omega arith

some_and : {A : Type 0} (o : Option A) (P : A → Type 0) → IsSomeAnd o P → (x : A) × (o ≡ Some x) × P x
some_and None P h = absurd h
some_and (Some x) P h = (x, refl, h)

-- what holds of one number, and of each other one
at_or_else : (P : ℕ → Condition → Type 0) (i : ℕ) (c : Condition) (f : ℕ → Condition) → P i c →
    ((k : ℕ) → (k == i) ≡ false → P k (f k)) → (k : ℕ) → P k (if k == i then c else f k)
at_or_else P i c f own others k = go (k == i) refl
  where
    go : (b : Bool) → (k == i) ≡ b → P k (if k == i then c else f k)
    go true e =
        subst (P k) (sym (cond-true (k == i) c (f k) e)) (subst (λ n. P n c) (sym (eqb-true k i e)) own)
    go false e = subst (P k) (sym (cond-false (k == i) c (f k) e)) (others k e)

module _ (i d : ℕ) (old new : Standing) (control control' : Control) (a : Action) (r : Given)
    (held : slice_get old.slots.items i ≡ Some (slot.Opened control)) (next : IsNext control (Some a))
    (going : old.ended ≡ false) (done : ActsOn d (on_host control) a r old.devices old.host new.devices new.host)
    (answered : Answers (answer_of r) control control') (stopped : IsStopped control')
    (moved : IsMoved i (request_of (side_of (on_host control)) a) control' old new) where
  abbrev request : Request
  request = request_of (side_of (on_host control)) a

  module _ (plan : Plan) (s : State) (at : IsAt plan old s) (h : IsAsked plan s i request control)
      (on : IsOnDevice plan i d) (p : Answer × Memories)
      (is : act plan.lengths (fill_from old i) request (memories_at d s.memories) ≡ Some p) (gave : p.0 ≡ answer_of r)
      (are : Are new.host done.after p.1) where
    abbrev t : State
    t = after plan s i d request control h on p

    counts : (e : ℕ) → CountsAtMost new.entered (t.memories.devices e).blocks
    counts =
        subst (λ n. (e : ℕ) → CountsAtMost n (t.memories.devices e).blocks) (sym moved.entered)
        (each_changed (λ (x : Device). CountsAtMost (entered_after request old.entered) x.blocks) d p.1.device
        s.memories.devices
        (counted_after old.entered (memories_at d s.memories) p (at.counts d) plan.lengths (fill_from old i) request is)
        (λ e. more old.entered (entered_after request old.entered) (s.memories.devices e).blocks (at.counts e)
        (more_entered request old.entered)))

    graph : Stands plan (record (as_whole t) { place = old.graph.place }) old.graph
    graph = record {
      items = at.graph.items;
      place = refl;
      conditions =
          at_or_else (λ k c. k < length old.graph.tasks → stage_of (whole_condition c) ≡ stage_at old.graph k) i
          (Opened (h.k p.0)) s.condition
          (λ lt. sym (ap (λ c. stage_of (whole_condition c)) h.condition) ∙ at.graph.conditions i lt)
          (λ k e lt. at.graph.conditions k lt);
    }

    kept : (k : ℕ) → k < length plan.items → Keeps plan.lengths (t.condition k) (slice_get new.slots.items k)
    kept =
        at_or_else (λ k c. k < length plan.items → Keeps plan.lengths c (slice_get new.slots.items k)) i
        (Opened (h.k p.0)) s.condition
        (λ lt. subst (IsOpen plan.lengths (h.k p.0)) (sym moved.here) (record {
          is = ap h.k gave ∙ sym (answered request h.k h.left);
          stopped = stopped;
          inside = stays_inside plan.lengths request h.k h.inside p.0;
        }))
        (λ k e lt. subst (Keeps plan.lengths (s.condition k)) (sym (moved.others k e)) (at.kept k lt))

    shown : IsAt plan new t
    shown = record {
      host = are.host;
      lengths = done.lengths ∙ at.lengths;
      devices =
          show_all d old.devices new.devices done.after done.becomes s.memories.devices p.1.device at.devices are.shown;
      alike = still_alike d old.devices new.devices done.after done.becomes at.alike;
      counts = counts;
      graph =
          subst (λ (g : Graph). Stands plan (record (as_whole t) { place = g.place }) g) (sym moved.graph) graph;
      place =
          at.place ∙ ap (λ b. place_of b old.graph.place) (sym moved.ended)
          ∙ ap (λ (g : Graph). place_of new.ended g.place) (sym moved.graph);
      ended = λ e. absurd (false≢true (sym going ∙ (sym moved.ended ∙ e)));
      here =
          here_after plan s s.place i (Opened (h.k p.0)) at.here
          (λ v is_v now o. at.here i v is_v now (ap (λ c. is_open (whole_condition c)) h.condition)) (λ j other there. there);
      scalars = at.scalars ∙ ap slice_index (sym moved.scalars);
      input = at.input ∙ ap (λ x. x.now) (sym moved.input);
      output = at.output ∙ ap (λ x. x.items) (sym moved.output);
      slots = moved.slots ∙ at.slots;
      kept = kept;
    }

  pub follows : FollowsOn d i old new
  follows plan s on at may =
      let h = asked_next plan s i old control a at held next may in
      let shows = at.devices d done.becomes.before done.becomes.was in
      let w = some_and (act (lengths_of old.host) (fill_of done.becomes.before) request
      (memories old.host (s.memories.devices d))) _ (done.acts (s.memories.devices d) shows) in
      let is = act_is plan s i d request control h on old done.becomes.before at done.becomes.was ∙ w.1 in
      subst (λ o. IsSomeAnd o (IsAt plan new))
      (sym (step_is plan s i d request control h on (fill_from old) (order_from old)
      ∙ ap (λ (o : Option (Answer × Memories)). option_map (after plan s i d request control h on) o) is))
      (shown plan s at h on w.0 is w.2.0 w.2.1)
