use Rattle.host_memory.specs.Arrays.{lengths_of, memory_of}
use Rattle.base.specs.Memory.{view_of}
use Rattle.frames.specs.Rows.{IsRow}
use Rattle.frames.proofs.RowViews.{Grown}
use Rattle.frames.proofs.host.host_rows.Given as goal

abbrev pub invariant-runs : goal.invariant-runs
invariant-runs l = Grown (IsRow (view_of (lengths_of l.host) (memory_of l.host))) l.reach l.section-index l.rows.items
