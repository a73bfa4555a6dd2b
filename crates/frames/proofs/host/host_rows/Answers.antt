use Rattle.std.proofs.Common.{arith}
use Rattle.base.specs.declared.item.Section.{Section}
use Rattle.host_memory.specs.Arrays.{lengths_of, memory_of}
use Rattle.base.specs.Memory.{view_of}
use Rattle.frames.specs.Rows.{IsRow}
use Rattle.frames.proofs.RowViews.{grown_more}
use Rattle.frames.proofs.host.host_rows.Goals as goal

abbrev other : Section
other = record { array = record { 0 = 0 }; first = 0; length = 0 }

pub runs-preserved : goal.runs-preserved
runs-preserved c =
    let host = c.args.host.now in
    grown_more (IsRow (view_of (lengths_of host) (memory_of host))) c.args.reach.now c.runs.section-index c.runs.rows.items
    c.push.new.self.items c.in_ok-host_row.field-0 other (omega arith) c.in_ok-host_row.ensures.row
    c.in_ok-push.ensures.items c.runs.invariant
