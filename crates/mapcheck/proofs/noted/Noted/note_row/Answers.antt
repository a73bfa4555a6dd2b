use Rattle.std.specs.Prelude.{◌==◌, ◌&&◌}
use Rattle.std.proofs.lemmas.Result.{IfOk-weaker}
use Rattle.base.specs.Items.{plan}
use Rattle.bits.specs.Sets.{has as has_number}
use Rattle.mapcheck.specs.Noted.{is_run}
use Rattle.mapcheck.proofs.NotedCells.{no_row, row_run, seen_fewer}
use Rattle.mapcheck.proofs.noted.Noted.note_row.Goals as goal

pub returns-in-None : goal.returns-in-None
returns-in-None c =
    no_row (plan c.args.order.now) c.args.self.now c.args.touch c.args.array c.args.row.now c.in-None.ensures

pub returns-in-Some : goal.returns-in-Some
returns-in-Some c =
    let array = c.args.array in
    let row = c.args.row.now in
    IfOk-weaker c.note_run.result _ _
    (λ clear h. seen_fewer (plan c.args.order.now) c.args.self.now c.note_run.new.self c.args.touch
    (is_run array c.in-Some.first c.end.result) (λ x. (x.array.0 == array.0) && has_number row x.index) clear h
    (row_run array row c.in-Some.first c.end.result c.in-Some.ensures.1 c.end.ensures.below))
    c.note_run.ensures
