use Rattle.std.proofs.Common.{get_or, refl, arith}
use Rattle.std.proofs.lemmas.Option.{slice_get-get_or}
use Rattle.device.proofs.Tables.{are_kept}
use Rattle.device.proofs.devices.Devices.leave.Goals as goal

pub leave_maps-requires-clause-goes : goal.leave_maps-requires-clause-goes
leave_maps-requires-clause-goes c =
    c.requires.goes (get_or c.args.self.now.tables c.args.device.number c.index-self-device.result)
    (slice_get-get_or c.args.self.now.tables c.args.device.number c.index-self-device.result (omega arith))

pub returns-clause-done : goal.returns-clause-done
returns-clause-done c = record {
  after = c.leave_maps.new.table;
  becomes = record {
    before = get_or c.args.self.now.tables c.args.device.number c.index-self-device.result;
    was = slice_get-get_or c.args.self.now.tables c.args.device.number c.index-self-device.result (omega arith);
    tables = refl;
    kept = c.leave_maps.ensures.kept;
  };
  leads = c.leave_maps.ensures.left;
}

pub returns-clause-kept : goal.returns-clause-kept
returns-clause-kept c =
    are_kept c.args.device.number c.args.self.now _ c.leave_maps.new.table (record {
      before = get_or c.args.self.now.tables c.args.device.number c.index-self-device.result;
      was = slice_get-get_or c.args.self.now.tables c.args.device.number c.index-self-device.result (omega arith);
      tables = refl;
      kept = c.leave_maps.ensures.kept;
    })
