use Rattle.base.specs.Map.{Device}
use Rattle.present.specs.Rows.{with_numbers}
use Rattle.present.specs.Table.{IsKept, Shows}
use Rattle.frames.proofs.StoredRows.{stored_upto}
use Rattle.frames.proofs.device.store_kernel.Given as goal

abbrev pub invariant-each : goal.invariant-each
invariant-each l = record {
  stored : (d : Device) → Shows l.fn.table d → Shows l.table (with_numbers (stored_upto l.rows l.a) d);
  kept : IsKept l.fn.table l.table;
}
