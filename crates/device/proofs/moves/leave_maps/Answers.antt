use Rattle.kernel.specs.Rows.{cells_stored}
use Rattle.present.specs.Rows.{with_numbers}
use Rattle.device.proofs.moves.leave_maps.Goals as goal

pub exit_all-requires-clause-goes : goal.exit_all-requires-clause-goes
exit_all-requires-clause-goes c =
    let g = c.requires.goes in
    record {
      device = with_numbers (cells_stored c.args.rows.now) g.device;
      shown = c.store_kernel.ensures.stored g.device g.shown;
      after = g.after;
      is = g.is;
    }

pub returns-clause-left : goal.returns-clause-left
returns-clause-left c d m shown e =
    c.exit_all.ensures.left (with_numbers (cells_stored c.args.rows.now) d) m (c.store_kernel.ensures.stored d shown) e
