use Rattle.host_memory.specs.Arrays.{lengths_of, memory_of}
use Rattle.base.specs.Memory.{view_of}
use Rattle.frames.proofs.RowViews.{cells_in_reach, rows_bounded}
use Rattle.frames.proofs.host.host_frame.Goals as goal

pub returns-clause-cells : goal.returns-clause-cells
returns-clause-cells c =
    let host = c.args.host.now in
    cells_in_reach (view_of (lengths_of host) (memory_of host)) c.args.reach.now c.in_ok-host_rows.field-0.items
    c.requires.of_arrays c.in_ok-host_rows.ensures

pub returns-clause-bounded : goal.returns-clause-bounded
returns-clause-bounded c =
    let host = c.args.host.now in
    rows_bounded (view_of (lengths_of host) (memory_of host)) c.args.reach.now c.in_ok-host_rows.field-0.items
    c.in_ok-host_rows.ensures
