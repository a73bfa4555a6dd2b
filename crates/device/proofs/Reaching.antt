-- One more event of a run.
use Rattle.std.proofs.Common.{◌≡◌, ◌+◌, ◌<◌, ◌≤◌, ◌^◌, ◌++◌, ℕ, Bool, true, false, List, [], ◌∷◌, map, length, Some, refl, sym, ap, ◌∙◌, subst, arith}
use Rattle.base.specs.declared.tree.Program.{Program}
use Rattle.base.specs.declared.item.Event.{Event}
use Rattle.base.specs.Items.{plan}
use Rattle.base.specs.Machine.{State, start, all_enabled, enabled, step, RunFrom}
use Rattle.base.specs.Accepted.{IsAccepted}
use Rattle.base.specs.Headline.{AreNumbers}
pub use Rattle.device.specs.Leading.{IsNext, Next, is_after, leads_to, next, one_more_run, reached_next, takes}
use Rattle.device.specs.Run as run
use Rattle.device.specs.Run.{fill_in, state_of}
use Rattle.device.specs.Running.{IsReached, IsRunning, run_of}
use Rattle.device.specs.declared.state.RunState.TheInside.{Inside}
use Rattle.device.specs.Standing.{IsAt, Follows, place_of}
use Rattle.device.specs.declared.standing.Standing.{Standing}
use Rattle.device.specs.Devices.{AreKept, HaveRoom, fresh_of}
use Rattle.taskgraph.specs.Board.{Facts, allows, facts_of, item_facts}
use Rattle.std.proofs.lemmas.List.{length-map}
use Rattle.base.specs.declared.item.Item.{Item}
use Rattle.outline.specs.Regions.{Entry}
use Rattle.outline.specs.Shown.{all_shown, as_shown}
use Rattle.device.proofs.Starts.{all_facts}
use Rattle.taskgraph.proofs.Laws.{allowed_is_enabled}
use mathlib.Core.Path.{fun_ext}
use Rattle.std.specs.Prelude.{filter}
use Rattle.std.specs.List.{range_with_len}
use Rattle.base.specs.declared.item.Event.TheVariants as event
use Rattle.device.specs.Allowed.{allowed_at}
use Rattle.device.proofs.Ended.{nothing_more, sound}
use Rattle.device.proofs.Rooms.{has_stayed, no_more_in_use, nothing_done}

-- after the end no event may happen
pub over : (r : run.Run) (now : Standing) → IsRunning r now → now.ended ≡ true → (e : Event) →
    enabled (plan r.program) (state_of r) e ≡ true → ⊥
over r now h is e may =
    let at = h.at.ended is in
    nothing_more r.program (fill_in r) (state_of r) (sound r.program (fill_in r) r.input r.history (state_of r) h.reached.ran)
    (h.at.place ∙ ap (λ b. place_of b now.graph.place) is ∙ ap (λ n. n + 1) at.0) at.1 e may

-- before it the host stands where the graph has it, and the graph allows what may happen
pub same_place : (r : run.Run) (now : Standing) → IsRunning r now → now.ended ≡ false → (state_of r).place ≡ now.graph.place
same_place r now h is = h.at.place ∙ ap (λ b. place_of b now.graph.place) is

pub same_events : (r : run.Run) (now : Standing) → IsRunning r now → now.ended ≡ false → (e : Event) →
    allows now.graph e ≡ enabled (plan r.program) (state_of r) e
same_events r now h is e =
    allowed_is_enabled (plan r.program) (record (state_of r) { place = now.graph.place }) now.graph e h.at.graph
    ∙ sym (ap (λ n. enabled (plan r.program) (record (state_of r) { place = n }) e) (same_place r now h is))

-- the graph has the facts of the items
pub same_tasks : (r : run.Run) (now : Standing) (entries : List Entry) (its : List Item) → IsRunning r now →
    all_shown entries its ≡ as_shown (plan r.program).items → now.graph.tasks ≡ map item_facts its
same_tasks r now entries its h e = sym h.at.graph.items ∙ all_facts entries its (plan r.program).items e

pub as_many_tasks : (r : run.Run) (now : Standing) → IsRunning r now → length now.graph.tasks ≡ length (plan r.program).items
as_many_tasks r now h =
    sym (ap (λ (fs : List Facts). length fs) h.at.graph.items) ∙ length-map (plan r.program).items facts_of

-- all that is allowed is all that may happen
pub all_events : (r : run.Run) (now : Standing) (n : ℕ) → IsRunning r now → now.ended ≡ false →
    n ≡ length (plan r.program).items → allowed_at now.graph n ≡ all_enabled (plan r.program) (state_of r)
all_events r now n h is count =
    ap (λ f. filter f (listed now.graph.place n)) (fun_ext (λ (e : Event). same_events r now h is e))
    ∙ ap (λ k. filter (enabled (plan r.program) (state_of r)) (listed k n)) (sym (same_place r now h is))
    ∙ ap (λ k. filter (enabled (plan r.program) (state_of r)) (listed (state_of r).place k)) count
  where
    listed : ℕ → ℕ → List Event
    listed place k =
        map event.Close (range_with_len 0 k) ++ (map event.Open (range_with_len 0 k)
        ++ (event.Gen place ∷ event.Wait place ∷ event.End ∷ []))

pub place_below : (r : run.Run) (now : Standing) → IsRunning r now → now.graph.place ≤ length (plan r.program).items + 1
place_below r now h = go now.ended refl
  where
    go : (b : Bool) → now.ended ≡ b → now.graph.place ≤ length (plan r.program).items + 1
    go true is = let k = (h.at.ended is).0 in omega arith
    go false is =
        let k = (sound r.program (fill_in r) r.input r.history (state_of r) h.reached.ran).top in
        let l = same_place r now h is in omega arith

-- an event that takes place before the end
pub record Before (r : run.Run) (now : Standing) (e : Event) : Type 0 where
  pub going : now.ended ≡ false
  pub allowed : allows now.graph e ≡ true

pub before : (r : run.Run) (now : Standing) (e : Event) → IsRunning r now →
    enabled (plan r.program) (state_of r) e ≡ true → Before r now e
before r now e h may = record {
  going = going;
  allowed = same_events r now h going e ∙ may;
}
  where
    not_ended : now.ended ≡ true → ⊥
    not_ended e1 = over r now h e1 e may

    going : now.ended ≡ false
    going = go now.ended refl
      where
        go : (b : Bool) → now.ended ≡ b → now.ended ≡ false
        go true e1 = absurd (not_ended e1)
        go false e1 = e1

-- the run goes on from the state that an event leads to
pub goes_to : (r r' : run.Run) (old new : Standing) (e : Event) → IsRunning r old → (n : Next r e) →
    IsAt (plan r.program) new n.state → IsNext r r' e → AreKept old.devices new.devices → IsRunning r' new
goes_to r r' old new e h n at is kept = record {
  reached = k.0;
  at = here;
  room = room;
  stayed = has_stayed r r' e h.stayed is k.0 (no_more_in_use r' new here room);
}
  where
    k : IsReached r' × (state_of r' ≡ n.state)
    k = reached_next r r' e h.reached n is.program is.input is.fresh is.history

    here : IsAt (plan r'.program) new (state_of r')
    here =
        subst (λ (q : Program). IsAt (plan q) new (state_of r')) (sym is.program)
        (subst (λ (t : State). IsAt (plan r.program) new t) (sym k.1) at)

    room : HaveRoom new.devices r'.capacity
    room = subst (HaveRoom new.devices) (sym is.capacity) (kept.room r.capacity h.room)

-- the same where what is shown follows the event
pub goes_on : (r r' : run.Run) (old new : Standing) (e : Event) → IsRunning r old →
    enabled (plan r.program) (state_of r) e ≡ true → Follows old e new →
    r.fresh ≡ fresh_of old.devices → IsNext r r' e → AreKept old.devices new.devices → IsRunning r' new
goes_on r r' old new e h may follows filled is kept =
    let n = next r e h.reached may in
    goes_to r r' old new e h n
    (follows (plan r.program) (state_of r) n.state h.at may
    (subst (λ (f : ℕ). step (plan r.program) (λ i c. f) (state_of r) e ≡ Some n.state) filled n.step)) is kept

-- what was asked of the value holds of the fields
pub asked : (s : Inside) (r : run.Run) (e : Event) → run_of s ≡ r → enabled (plan r.program) (state_of r) e ≡ true →
    enabled (plan (run_of s).program) (state_of (run_of s)) e ≡ true
asked s r e is may = subst (λ (x : run.Run). enabled (plan x.program) (state_of x) e ≡ true) (sym is) may

-- a run begins where nothing was done
pub begun : (r : run.Run) (now : Standing) → IsAccepted (plan r.program) → AreNumbers r.input →
    r.fresh < 2 ^ 64 → r.history ≡ [] → IsAt (plan r.program) now (start r.input) → HaveRoom now.devices r.capacity →
    IsRunning r now
begun r now accepted numbers fresh none at room = record {
  reached = reached;
  at = now_at;
  room = room;
  stayed = nothing_done r reached none (no_more_in_use r now now_at room);
}
  where
    ran : RunFrom (plan r.program) (fill_in r) r.input r.history (Some (start r.input))
    ran = subst (λ (h : List Event). RunFrom (plan r.program) (fill_in r) r.input h (Some (start r.input))) (sym none) refl

    here : state_of r ≡ start r.input
    here = leads_to r (start r.input) ran

    now_at : IsAt (plan r.program) now (state_of r)
    now_at = subst (λ (s : State). IsAt (plan r.program) now s) (sym here) at

    reached : IsReached r
    reached = record {
      accepted = accepted;
      numbers = numbers;
      fresh = fresh;
      ran = subst (λ (s : State). RunFrom (plan r.program) (fill_in r) r.input r.history (Some s)) (sym here) ran;
    }

pub is_opened_next : (old new : run.Run) (i : ℕ) → run.HasOpened i old new → IsNext old new (event.Open i)
is_opened_next old new i h = record {
  program = ap (λ (r : run.Run). r.program) h.is;
  input = ap (λ (r : run.Run). r.input) h.is;
  capacity = ap (λ (r : run.Run). r.capacity) h.is;
  fresh = ap (λ (r : run.Run). r.fresh) h.is;
  history = ap (λ (r : run.Run). r.history) h.is;
}
