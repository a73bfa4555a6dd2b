use Rattle.std.proofs.Common.{◌≡◌}
use Rattle.host_memory.specs.Arrays.{lengths_of, memory_of}
use Rattle.frames.specs.Views.{with_stored}
use Rattle.frames.proofs.StoredRows.{stored_upto}
use Rattle.frames.proofs.host.store_host.Given as goal

abbrev pub invariant-each : goal.invariant-each
invariant-each l = record {
  stored : memory_of l.host ≡ with_stored (stored_upto l.rows l.a) (memory_of l.fn.host);
  lengths : lengths_of l.host ≡ lengths_of l.fn.host;
}
