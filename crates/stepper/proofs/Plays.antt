-- A run by choices, event by event.
use Rattle.std.proofs.Common.{◌≡◌, ℕ, true, List, [], ◌∷◌, ◌++◌, drop, length, Some, None, sym, ap, ◌∙◌, subst}
use Rattle.base.specs.declared.fault.RunFault.{RunFault}
use Rattle.base.specs.declared.fault.RunFault.TheVariants as fault
use Rattle.base.specs.declared.item.Event.{Event}
use Rattle.base.specs.declared.tree.Program.{Program}
use Rattle.base.specs.Accepted.{IsAccepted}
use Rattle.base.specs.Items.{plan}
use Rattle.fine_headline.proofs.Headline.{headline}
use Rattle.fine_machine.specs.Machine.{HasEnded, State, enabled, step}
use Rattle.mapwalk.specs.Walk.{HasNoRangeFault}
use Rattle.stepper.specs.declared.stops.Stop.{Stop}
use Rattle.stepper.specs.Answering.{HasRun, IsFailed, IsFineFault, next_by}
use Rattle.stepper.specs.Leading.{at_first}
use Rattle.stepper.specs.Order.{same_order}
use Rattle.stepper.specs.Run.{IsGoing, Run, fill_in, order_in, state_of}
use Rattle.stepper.specs.Running.{HasCome, HasDone, IsEventFault, IsNew}
use Rattle.stepper.specs.Stops.{IsComing, IsStop}
use Rattle.stepper.proofs.Follows.{is_run, may_happen, run_more}
use Rattle.stepper.proofs.HasRuns.{has_ended, has_gone_on, not_begun}

-- the events so far are those of the run by these choices
pub record Plays (p : Program) (input choices turns : List ℕ) (capacity : ℕ) (r : Run) : Type 0 where
  pub program : r.program ≡ p
  pub given : r.input ≡ input
  pub order : r.order ≡ turns
  pub room : r.capacity ≡ capacity
  pub going : IsGoing r
  pub ran : HasRun r.program r.input choices r.capacity (fill_in r) (order_in r) r.history (state_of r)

pub begins : (p : Program) (input choices turns : List ℕ) (capacity : ℕ) (r : Run) → IsNew p input turns capacity r →
    Plays p input choices turns capacity r
begins p input choices turns capacity r new = record {
  program = new.program;
  given = new.input;
  order = new.order;
  room = new.capacity;
  going = new.going;
  ran =
      let first = at_first r new.history new.going in
      subst (λ es. HasRun r.program r.input choices r.capacity (fill_in r) (order_in r) es (state_of r)) (sym new.history)
      (subst (HasRun r.program r.input choices r.capacity (fill_in r) (order_in r) []) (sym (ap (λ f. f.state) first))
      (not_begun r.program r.input choices r.capacity (fill_in r) (order_in r) (λ i c. new.fresh)));
}

module _ (p : Program) (input choices turns : List ℕ) (capacity : ℕ) (r : Run)
    (plays : Plays p input choices turns capacity r) where
  abbrev s : State
  s = state_of r

  -- where no event is next
  pub over : None ≡ next_by (plan r.program) s (drop (length r.history) choices) → HasEnded (plan r.program) s
  over none =
      has_ended r.program r.input choices r.capacity (fill_in r) (order_in r) r.history s plays.ran (drop (length r.history) choices) (sym none)

  module _ (e : Event) (next : Some e ≡ next_by (plan r.program) s (drop (length r.history) choices)) where
    pub may : enabled (plan r.program) s e ≡ true
    may = may_happen (plan r.program) (fill_in r) (order_in r) s (drop (length r.history) choices) e (sym next)

    pub goes_on : (t : Run) → HasDone r e t → Plays p input choices turns capacity t
    goes_on t done = record {
      program = done.takes.program ∙ plays.program;
      given = done.takes.input ∙ plays.given;
      order = done.takes.order ∙ plays.order;
      room = done.takes.capacity ∙ plays.room;
      going = done.going;
      ran =
          subst (λ q. HasRun q t.input choices t.capacity (fill_in t) (order_in t) t.history (state_of t)) (sym done.takes.program)
          (subst (λ xs. HasRun r.program xs choices t.capacity (fill_in t) (order_in t) t.history (state_of t)) (sym done.takes.input)
          (subst (λ n. HasRun r.program r.input choices n (fill_in t) (order_in t) t.history (state_of t)) (sym done.takes.capacity)
          (subst (λ n. HasRun r.program r.input choices r.capacity (λ i c. n) (order_in t) t.history (state_of t)) (sym done.takes.fresh)
          (subst (λ ns. HasRun r.program r.input choices r.capacity (fill_in r) (same_order ns) t.history (state_of t))
          (sym done.takes.order)
          (subst (λ es. HasRun r.program r.input choices r.capacity (fill_in r) (order_in r) es (state_of t)) (sym done.history)
          (has_gone_on r.program r.input choices r.capacity (fill_in r) (order_in r) r.history s plays.ran e (state_of t) (sym next)
          done.stepped done.within))))));
    }

    -- an accepted program's event does not fail
    never_fails : HasCome r → step (plan r.program) (fill_in r) (order_in r) s e ≡ None → IsAccepted (plan r.program) → ⊥
    never_fails come fails accepted =
        (headline r.program accepted).never_fails r.input (fill_in r) (order_in r) (r.history ++ e ∷ []) come.numbers (λ i c. come.fresh)
        (is_run (plan r.program) (fill_in r) (order_in r) (length (r.history ++ e ∷ [])) r.input choices (r.history ++ e ∷ []) None
        (run_more (plan r.program) (fill_in r) (order_in r) r.input choices r.history s e plays.ran.ran (sym next)
        ∙ ap (λ o. record { history = r.history ++ e ∷ []; state = o }) fails))

    -- where the event fails
    abbrev failure : HasCome r → HasNoRangeFault (plan r.program) → IsEventFault r e fault.Absent →
        IsFailed r.program r.input choices r.order r.capacity
    failure come fine why = record {
      fine = fine;
      fill = fill_in r;
      history = r.history;
      now = s;
      ran = plays.ran;
      event = e;
      next = sym next;
      room = why.0;
      fails = why.1;
      refused = never_fails come why.1;
    }

    -- a fault of the run itself
    faulty : HasCome r → HasNoRangeFault (plan r.program) → (f : RunFault) → IsEventFault r e f →
        IsFineFault r.program r.input choices r.order r.capacity f
    faulty come fine fault.OutOfMemory why = tt
    faulty come fine fault.DeviceFull why = record {
      fine = fine;
      fill = fill_in r;
      history = r.history;
      now = s;
      ran = plays.ran;
      item = why.item;
      next = sym next ∙ ap (λ (x : Event). Some x) why.is;
      over = why.over;
    }
    faulty come fine fault.Absent why = failure come fine why
    faulty come fine fault.Stranger why = why
    faulty come fine fault.ThreadNotStarted why = why
    faulty come fine fault.OtherState why = why
    faulty come fine fault.RangeRefused why = absurd why

    pub stops : HasCome r → HasNoRangeFault (plan p) → (f : RunFault) → IsEventFault r e f →
        IsFineFault p input choices turns capacity f
    stops come fine f why =
        subst (λ q. IsFineFault q input choices turns capacity f) plays.program
        (subst (λ xs. IsFineFault r.program xs choices turns capacity f) plays.given
        (subst (λ ns. IsFineFault r.program r.input choices ns capacity f) plays.order
        (subst (λ n. IsFineFault r.program r.input choices r.order n f) plays.room
        (faulty come (subst (λ q. HasNoRangeFault (plan q)) (sym plays.program) fine) f why))))

    -- the action that was to come is that at which the run fails
    pub stops_at : HasCome r → HasNoRangeFault (plan p) → IsEventFault r e fault.Absent → (stop : Stop) →
        IsComing (plan r.program) s e stop → IsStop p input choices turns capacity stop
    stops_at come fine why stop coming =
        subst (λ q. IsStop q input choices turns capacity stop) plays.program
        (subst (λ xs. IsStop r.program xs choices turns capacity stop) plays.given
        (subst (λ ns. IsStop r.program r.input choices ns capacity stop) plays.order
        (subst (λ n. IsStop r.program r.input choices r.order n stop) plays.room
        (record {
          failed = failure come (subst (λ q. HasNoRangeFault (plan q)) (sym plays.program) fine) why;
          coming = coming;
        }))))
