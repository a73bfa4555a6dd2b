use Rattle.std.proofs.Common.{arith}
use Rattle.base.specs.declared.item.Section.{Section}
use Rattle.frames.specs.Rows.{HasRoom}
use Rattle.frames.proofs.RowViews.{grown_more}
use Rattle.frames.proofs.device.rows_for.Goals as goal

abbrev other : Section
other = record { array = record { 0 = 0 }; first = 0; length = 0 }

pub runs-preserved : goal.runs-preserved
runs-preserved c =
    grown_more HasRoom c.args.reach.now c.runs.section-index c.runs.rows.items c.push.new.self.items c.in_ok-room_for.field-0
    other (omega arith) c.in_ok-room_for.ensures c.in_ok-push.ensures.items c.runs.invariant
