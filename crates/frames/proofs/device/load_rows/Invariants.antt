use Rattle.present.specs.Table.{IsUnchanged, number_at}
use Rattle.frames.proofs.LoadedRows.{LoadedUpTo}
use Rattle.frames.proofs.device.load_rows.Given as goal

abbrev pub invariant-each : goal.invariant-each
invariant-each l = record {
  loaded : LoadedUpTo (number_at l.fn.table) l.reach l.a l.fn.rows l.rows;
  unchanged : IsUnchanged l.fn.table l.table;
}
