use Rattle.std.proofs.Common.{refl, ap}
use Rattle.base.specs.declared.item.Event.TheVariants as event
use Rattle.device.specs.Devices.{fresh_of}
use Rattle.device.specs.Running.{run_of}
use Rattle.device.proofs.Reaching.{asked, before, goes_on}
use Rattle.device.proofs.Tables.{kept_same}
use Rattle.device.proofs.state.RunState.wait.Goals as goal

pub pass-requires-clause-here : goal.pass-requires-clause-here
pass-requires-clause-here c =
    let may = asked c.self.inside c.args.self.now (event.Wait c.args.item) c.self.view_is c.requires in
    (before (run_of c.self.inside) c.self.inside.standing (event.Wait c.args.item) c.self.invariant may).allowed

pub pass-requires-clause-going : goal.pass-requires-clause-going
pass-requires-clause-going c =
    let may = asked c.self.inside c.args.self.now (event.Wait c.args.item) c.self.view_is c.requires in
    (before (run_of c.self.inside) c.self.inside.standing (event.Wait c.args.item) c.self.invariant may).going

pub invariant_of-self-2 : goal.invariant_of-self-2
invariant_of-self-2 c =
    let may = asked c.self.inside c.args.self.now (event.Wait c.args.item) c.self.view_is c.requires in
    goes_on (run_of c.self.inside) _ c.self.inside.standing c.pass.new.self (event.Wait c.args.item) c.self.invariant may
    c.pass.ensures.passed refl
    (record {
      program = refl;
      input = refl;
      capacity = refl;
      fresh = ap fresh_of c.pass.ensures.devices;
      history = c.in_ok-note.ensures.noted;
    })
    (kept_same c.self.inside.standing.devices c.pass.new.self.devices c.pass.ensures.devices)
