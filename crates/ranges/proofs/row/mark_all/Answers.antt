use mathlib.Core.Path.{fun_ext}
use Rattle.bits.specs.Sets.{has}
use Rattle.ranges.proofs.Marks.{interval_added}
use Rattle.ranges.proofs.Outcomes.{always_err}
use Rattle.ranges.proofs.row.mark_all.Goals as goal

pub returns-clause-ok : goal.returns-clause-ok
returns-clause-ok c = interval_added (has c.args.row.now) (has c.make_room.new.self) (has c.insert_range.new.self) c.args.cells
    c.in_ok-make_room.ensures.same c.insert_range.ensures.added

pub returns-in_err-make_room-clause-err : goal.returns-in_err-make_room-clause-err
returns-in_err-make_room-clause-err c = always_err c.from_residual.result (fun_ext c.make_room.ensures.same)
