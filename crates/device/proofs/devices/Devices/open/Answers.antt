use Rattle.std.proofs.Common.{get_or, refl, subst, arith}
use Rattle.std.proofs.lemmas.Option.{slice_get-get_or}
use Rattle.std.proofs.lemmas.Result.{IfErr-weaker, on_err_weaker, on_ok_weaker}
use Rattle.present.specs.declared.Table.{Table}
use Rattle.present.specs.Table.{HasRoom}
use Rattle.device.specs.Moves.{IsMapsFault}
use Rattle.device.proofs.Tables.{are_kept, same_table}
use Rattle.device.proofs.devices.Devices.open.Goals as goal

pub returns-clause-done : goal.returns-clause-done
returns-clause-done c =
    let was = slice_get-get_or c.args.self.now.tables c.args.device.number c.index-self-device.result (omega arith) in
    on_ok_weaker c.open_maps.result (λ leads. record {
      after = c.open_maps.new.table;
      becomes = record { before = get_or c.args.self.now.tables c.args.device.number c.index-self-device.result; was = was; tables = refl; kept = c.open_maps.ensures.kept };
      leads = leads;
    }) c.open_maps.ensures.done

pub returns-clause-room : goal.returns-clause-room
returns-clause-room c =
    let was = slice_get-get_or c.args.self.now.tables c.args.device.number c.index-self-device.result (omega arith) in
    on_ok_weaker c.open_maps.result (λ room e t is. subst (λ (x : Table). HasRoom x c.args.maps.now)
    (same_table c.args.self.now c.args.device.number
    (get_or c.args.self.now.tables c.args.device.number c.index-self-device.result) t was is) (room e)) c.open_maps.ensures.room

pub returns-clause-fault : goal.returns-clause-fault
returns-clause-fault c =
    let was = slice_get-get_or c.args.self.now.tables c.args.device.number c.index-self-device.result (omega arith) in
    IfErr-weaker c.open_maps.result _ _
    (λ f why t is. subst (λ (x : Table). IsMapsFault x c.args.kind c.args.maps.now f)
    (same_table c.args.self.now c.args.device.number
    (get_or c.args.self.now.tables c.args.device.number c.index-self-device.result) t was is) why) c.open_maps.ensures.fault

pub returns-clause-unchanged : goal.returns-clause-unchanged
returns-clause-unchanged c =
    let was = slice_get-get_or c.args.self.now.tables c.args.device.number c.index-self-device.result (omega arith) in
    on_err_weaker c.open_maps.result (λ same. (
      record {
        after = c.open_maps.new.table;
        becomes = record { before = get_or c.args.self.now.tables c.args.device.number c.index-self-device.result; was = was; tables = refl; kept = c.open_maps.ensures.kept };
        unchanged = same.0;
      },
      same.1,
    )) c.open_maps.ensures.unchanged

pub returns-clause-kept : goal.returns-clause-kept
returns-clause-kept c =
    let was = slice_get-get_or c.args.self.now.tables c.args.device.number c.index-self-device.result (omega arith) in
    are_kept c.args.device.number c.args.self.now _ c.open_maps.new.table
    (record { before = get_or c.args.self.now.tables c.args.device.number c.index-self-device.result; was = was; tables = refl; kept = c.open_maps.ensures.kept })
