use Rattle.std.proofs.Common.{refl, ap, arith}
use Rattle.base.specs.declared.item.Event.TheVariants as event
use Rattle.base.proofs.Runs.{enabled_Gen}
use Rattle.base.specs.Items.{plan}
use Rattle.device.specs.Run.{state_of}
use Rattle.device.specs.Devices.{fresh_of}
use Rattle.device.specs.Running.{run_of}
use Rattle.device.proofs.Reaching.{asked, before, goes_on}
use Rattle.std.proofs.lemmas.Grind.{common_steps}
use Rattle.device.proofs.Tables.{kept_same}
use Rattle.device.proofs.state.RunState.generate.Goals as goal

pub generate-requires-clause-here : goal.generate-requires-clause-here
generate-requires-clause-here c =
    let may = asked c.self.inside c.args.self.now (event.Gen c.args.item) c.self.view_is c.requires in
    (before (run_of c.self.inside) c.self.inside.standing (event.Gen c.args.item) c.self.invariant may).allowed

pub generate-requires-clause-going : goal.generate-requires-clause-going
generate-requires-clause-going c =
    let may = asked c.self.inside c.args.self.now (event.Gen c.args.item) c.self.view_is c.requires in
    (before (run_of c.self.inside) c.self.inside.standing (event.Gen c.args.item) c.self.invariant may).going

pub generate-requires-clause-inside : goal.generate-requires-clause-inside
generate-requires-clause-inside c =
    let may = asked c.self.inside c.args.self.now (event.Gen c.args.item) c.self.view_is c.requires in
    let k = enabled_Gen (plan (run_of c.self.inside).program) (state_of (run_of c.self.inside)) c.args.item may in
    let l = c.self.invariant.at.slots in omega arith

pub invariant_of-self-in-Ok : goal.invariant_of-self-in-Ok
invariant_of-self-in-Ok c =
    let may = asked c.self.inside c.args.self.now (event.Gen c.args.item) c.self.view_is c.requires in
    goes_on (run_of c.self.inside) _ c.self.inside.standing c.generate.new.self (event.Gen c.args.item) c.self.invariant may
    c.in-Ok.ensures.generated refl
    (record {
      program = refl;
      input = refl;
      capacity = refl;
      fresh = ap fresh_of c.in-Ok.ensures.devices;
      history = c.in_ok-note.ensures.noted;
    })
    (kept_same c.self.inside.standing.devices c.generate.new.self.devices c.in-Ok.ensures.devices)

pub invariant_of-self-in-Err : goal.invariant_of-self-in-Err
invariant_of-self-in-Err c = grind (arith, common_steps)

pub returns-in-Err-clause-unchanged : goal.returns-in-Err-clause-unchanged
returns-in-Err-clause-unchanged c = grind (arith, common_steps)
