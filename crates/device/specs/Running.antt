-- What holds of the state of a run.
use Rattle.std.specs.Prelude.{◌<◌, ◌^◌, Some, map}
use Rattle.base.specs.Items.{plan}
use Rattle.base.specs.Machine.{RunFrom}
use Rattle.base.specs.Accepted.{IsAccepted}
use Rattle.base.specs.Headline.{AreNumbers}
use Rattle.device.specs.Devices.{HaveRoom, fresh_of}
use Rattle.device.specs.declared.state.RunState.TheInside.{Inside}
use Rattle.device.specs.declared.standing.Standing.{Standing}
use Rattle.device.specs.Room.{HasStayed}
use Rattle.device.specs.Run.{Run, fill_in, state_of}
use Rattle.device.specs.Standing.{IsAt, issue_of}

-- the program is accepted, and its events so far are a run, which leads to the state of the machine
pub record IsReached (r : Run) : Type 0 where
  pub accepted : IsAccepted (plan r.program)
  pub numbers : AreNumbers r.input
  pub fresh : r.fresh < 2 ^ 64
  pub ran : RunFrom (plan r.program) (fill_in r) r.input r.history (Some (state_of r))

-- the code's values show that state, and the run has kept to the room of each device
pub record IsRunning (r : Run) (now : Standing) : Type 0 where
  pub reached : IsReached r
  pub at : IsAt (plan r.program) now (state_of r)
  pub room : HaveRoom now.devices r.capacity
  pub stayed : HasStayed r

abbrev pub run_of : Inside → Run
run_of s = record {
  program = s.image.now;
  input = s.whole.now;
  capacity = s.capacity;
  fresh = fresh_of s.standing.devices;
  history = s.history.items;
  issued = map issue_of s.standing.held.items;
}

abbrev pub Shows : Inside → Type 0
Shows s = IsRunning (run_of s) s.standing
