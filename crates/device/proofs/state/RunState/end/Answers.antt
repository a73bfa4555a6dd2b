use Rattle.std.proofs.Common.{refl, ap}
use Rattle.base.specs.declared.item.Event.TheVariants as event
use Rattle.device.specs.Devices.{fresh_of}
use Rattle.device.specs.Running.{run_of}
use Rattle.device.proofs.Reaching.{asked, before, goes_on}
use Rattle.device.proofs.Tables.{kept_same}
use Rattle.device.proofs.state.RunState.end.Goals as goal

pub end-requires : goal.end-requires
end-requires c =
    let may = asked c.self.inside c.args.self.now event.End c.self.view_is c.requires in
    (before (run_of c.self.inside) c.self.inside.standing event.End c.self.invariant may).going

pub invariant_of-self-2 : goal.invariant_of-self-2
invariant_of-self-2 c =
    let may = asked c.self.inside c.args.self.now event.End c.self.view_is c.requires in
    goes_on (run_of c.self.inside) _ c.self.inside.standing c.end.new.self event.End c.self.invariant may
    c.end.ensures.ended refl
    (record {
      program = refl;
      input = refl;
      capacity = refl;
      fresh = ap fresh_of c.end.ensures.devices;
      history = c.in_ok-note.ensures.noted;
    })
    (kept_same c.self.inside.standing.devices c.end.new.self.devices c.end.ensures.devices)
