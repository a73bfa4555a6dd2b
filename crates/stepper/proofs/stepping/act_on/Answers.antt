use Rattle.std.proofs.Common.{◌≡◌, Some, get_or, refl, subst, arith}
use Rattle.std.proofs.lemmas.Option.{slice_get-get_or}
use Rattle.std.proofs.lemmas.Result.{IfErr-weaker, IfOk-weaker, on_ok_weaker}
use Rattle.present.specs.declared.Table.{Table}
use Rattle.device.specs.Devices.{table_at}
use Rattle.device.proofs.Tables.{are_kept, same_table}
use Rattle.actions.specs.Acting.{FitsIn, IsActFault}
use Rattle.stepper.proofs.stepping.act_on.Goals.{After-act}
use Rattle.stepper.proofs.stepping.act_on.Goals as goal

-- the device's table
abbrev before : After-act → Table
before c = get_or c.args.devices.now.tables c.args.device.number c.index-devices-device.result

was : (c : After-act) → table_at c.args.devices.now c.args.device.number ≡ Some (before c)
was c =
    slice_get-get_or c.args.devices.now.tables c.args.device.number c.index-devices-device.result (omega arith)

pub returns-clause-done : goal.returns-clause-done
returns-clause-done c =
    let w = (goal.at.returns-clause-done c).After-act in
    IfOk-weaker c.act.result _ _ (λ r acts. record {
      after = c.act.new.table;
      becomes = record { before = before w; was = was w; tables = refl; kept = c.act.ensures.kept };
      acts = acts;
      lengths = c.act.ensures.lengths;
    }) c.act.ensures.done

pub returns-clause-room : goal.returns-clause-room
returns-clause-room c =
    let w = (goal.at.returns-clause-room c).After-act in
    on_ok_weaker c.act.result (λ room t is. subst (FitsIn c.args.action)
    (same_table c.args.devices.now c.args.device.number (before w) t (was w) is) room) c.act.ensures.room

pub returns-clause-fault : goal.returns-clause-fault
returns-clause-fault c =
    let w = (goal.at.returns-clause-fault c).After-act in
    IfErr-weaker c.act.result _ _
    (λ f why t is. subst (λ (x : Table). IsActFault c.args.on_host c.args.action x c.args.host.now f)
    (same_table c.args.devices.now c.args.device.number (before w) t (was w) is) why) c.act.ensures.fault

pub returns-clause-kept : goal.returns-clause-kept
returns-clause-kept c =
    let w = (goal.at.returns-clause-kept c).After-act in
    are_kept c.args.device.number c.args.devices.now _ c.act.new.table
    (record { before = before w; was = was w; tables = refl; kept = c.act.ensures.kept })
