-- A run in which nothing was done.
use Rattle.std.proofs.Common.{◌≡◌, ◌<◌, ◌^◌, [], Some, sym, ap, subst, arith}
use Rattle.base.specs.Headline.{AreNumbers}
use Rattle.base.specs.Items.{plan}
use Rattle.device.specs.Devices.{HaveRoom}
use Rattle.fine_machine.specs.Machine.{RunFrom, State, start}
use Rattle.mapwalk.specs.Walk.{HasNoRangeFault}
use Rattle.stepper.specs.declared.standing.Standing.{Standing}
use Rattle.stepper.specs.Leading.{at_first}
use Rattle.stepper.specs.Run.{IsGoing, Run, fill_in, order_in, state_of}
use Rattle.stepper.specs.Running.{IsRunning}
use Rattle.stepper.specs.Standing.{IsAt}

-- a run begins
pub is_new : (r : Run) (now : Standing) → HasNoRangeFault (plan r.program) → AreNumbers r.input →
    r.fresh < 2 ^ 64 → r.history ≡ [] → IsGoing r → IsAt (plan r.program) now (start r.input) →
    HaveRoom now.devices r.capacity → IsRunning r now
is_new r now fine numbers fresh none going at room = record {
  fine = fine;
  numbers = numbers;
  fresh = fresh;
  going = λ g.
      let first = at_first r none going in
      let state = ap (λ f. f.state) first in
      record {
        at = subst (IsAt (plan r.program) now) (sym state) at;
        ran =
            subst (λ es. RunFrom (plan r.program) (fill_in r) (order_in r) r.input es (Some (state_of r))) (sym none)
            (ap (λ (t : State). Some t) state);
        sound = ap (λ f. f.failed) first;
        room = room;
        below = let zero = ap (λ (t : State). t.place) state in omega arith;
      };
}
