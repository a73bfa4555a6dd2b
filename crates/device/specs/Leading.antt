-- Where one more event of a run leads.
use Rattle.std.proofs.Common.{◌≡◌, ◌<◌, ◌^◌, ◌++◌, ℕ, true, List, [], ◌∷◌, Option, Some, None, refl, sym, ap, ◌∙◌, subst}
use Rattle.std.specs.Prelude.{unwrap_or}
use Rattle.base.specs.declared.item.Event.{Event}
use Rattle.base.specs.Items.{Plan, plan}
use Rattle.base.specs.Map.{Fill}
use Rattle.base.specs.Machine.{State, start, enabled, step, Run, RunFrom}
use Rattle.base.specs.Accepted.{IsAccepted}
use Rattle.base.specs.Headline.{AreNumbers}
use Rattle.base.proofs.Runs.{Run-append}
use Rattle.headline.proofs.Headline.{headline}
use Rattle.device.specs.Reached.{after_events}
use Rattle.device.specs.Run as run
use Rattle.device.specs.Run.{fill_in, state_of}
use Rattle.device.specs.Running.{IsReached}
use Rattle.device.specs.Taking.{Takes}

module _ (pl : Plan) (fill : ℕ → Fill) where
  -- events that are a run lead where the run leads
  run_reaches : (events : List Event) (o end : Option State) → Run pl fill o events end → after_events pl fill events o ≡ end
  run_reaches [] o end r = sym r
  run_reaches (e ∷ rest) None end r = absurd r
  run_reaches (e ∷ rest) (Some s) end r = run_reaches rest (step pl fill s e) end r.1

  pub one_more_run : (input : List ℕ) (events : List Event) (s : State) (e : Event) (end : Option State) →
      RunFrom pl fill input events (Some s) → enabled pl s e ≡ true → step pl fill s e ≡ end →
      RunFrom pl fill input (events ++ e ∷ []) end
  one_more_run input events s e end ran may is =
      Run-append pl fill (Some (start input)) events (e ∷ []) (Some s) end ran (may, sym is)

-- where the events of a run lead
pub leads_to : (r : run.Run) (s : State) → RunFrom (plan r.program) (fill_in r) r.input r.history (Some s) → state_of r ≡ s
unfolding state_of
leads_to r s ran =
    ap (λ o. unwrap_or o (start r.input)) (run_reaches (plan r.program) (fill_in r) r.history (Some (start r.input)) (Some s) ran)

-- an event that may happen does not fail, and leads on
pub record Next (r : run.Run) (e : Event) : Type 0 where
  pub state : State
  pub step : step (plan r.program) (fill_in r) (state_of r) e ≡ Some state
  pub ran : RunFrom (plan r.program) (fill_in r) r.input (r.history ++ e ∷ []) (Some state)

pub next : (r : run.Run) (e : Event) → IsReached r → enabled (plan r.program) (state_of r) e ≡ true → Next r e
next r e h may = go (step (plan r.program) (fill_in r) (state_of r) e) refl
  where
    go : (o : Option State) → step (plan r.program) (fill_in r) (state_of r) e ≡ o → Next r e
    go (Some t) is =
        record {
          state = t;
          step = is;
          ran = one_more_run (plan r.program) (fill_in r) r.input r.history (state_of r) e (Some t) h.ran may is;
        }
    go None is =
        absurd ((headline r.program h.accepted).never_fails r.input (fill_in r) (r.history ++ e ∷ []) h.numbers
        (λ i c. h.fresh) (one_more_run (plan r.program) (fill_in r) r.input r.history (state_of r) e None h.ran may is))

-- a run with one more event
pub reached_next : (r r' : run.Run) (e : Event) → IsReached r → (n : Next r e) →
    r'.program ≡ r.program → r'.input ≡ r.input → r'.fresh ≡ r.fresh → r'.history ≡ r.history ++ e ∷ [] →
    IsReached r' × (state_of r' ≡ n.state)
reached_next r r' e h n program input fresh history = (made, to)
  where
    ran : RunFrom (plan r'.program) (fill_in r') r'.input r'.history (Some n.state)
    ran = moved n.ran
      where
        moved : RunFrom (plan r.program) (fill_in r) r.input (r.history ++ e ∷ []) (Some n.state) →
            RunFrom (plan r'.program) (fill_in r') r'.input r'.history (Some n.state)
        moved x =
            subst (λ q. RunFrom (plan q) (fill_in r') r'.input r'.history (Some n.state)) (sym program)
            (subst (λ i. RunFrom (plan r.program) (fill_in r') i r'.history (Some n.state)) (sym input)
            (subst (λ f. RunFrom (plan r.program) (λ i c. f) r.input r'.history (Some n.state)) (sym fresh)
            (subst (λ k. RunFrom (plan r.program) (fill_in r) r.input k (Some n.state)) (sym history) x)))

    to : state_of r' ≡ n.state
    to = leads_to r' n.state ran

    made : IsReached r'
    made = record {
      accepted = subst (λ q. IsAccepted (plan q)) (sym program) h.accepted;
      numbers = subst AreNumbers (sym input) h.numbers;
      fresh = subst (λ n. n < 2 ^ 64) (sym fresh) h.fresh;
      ran = subst (λ t. RunFrom (plan r'.program) (fill_in r') r'.input r'.history (Some t)) (sym to) ran;
    }

-- what the last event left of a run
pub record IsNext (r r' : run.Run) (e : Event) : Type 0 where
  pub program : r'.program ≡ r.program
  pub input : r'.input ≡ r.input
  pub capacity : r'.capacity ≡ r.capacity
  pub fresh : r'.fresh ≡ r.fresh
  pub history : r'.history ≡ r.history ++ e ∷ []

-- an event that was noted was a step
pub takes : (old new : run.Run) (e : Event) → IsReached old → enabled (plan old.program) (state_of old) e ≡ true →
    IsNext old new e → Takes old e new
takes old new e h may is =
    let n = next old e h may in
    let k = reached_next old new e h n is.program is.input is.fresh is.history in
    record {
      program = is.program;
      input = is.input;
      capacity = is.capacity;
      fresh = is.fresh;
      history = is.history;
      stepped = n.step ∙ ap (λ (t : State). Some t) (sym k.1);
    }

-- a run with one more event is the next one
pub is_after : (old new : run.Run) (e : Event) → new ≡ run.after old e → IsNext old new e
is_after old new e is = record {
  program = ap (λ (r : run.Run). r.program) is;
  input = ap (λ (r : run.Run). r.input) is;
  capacity = ap (λ (r : run.Run). r.capacity) is;
  fresh = ap (λ (r : run.Run). r.fresh) is;
  history = ap (λ (r : run.Run). r.history) is;
}
