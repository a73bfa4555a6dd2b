use Rattle.std.proofs.Common.{length, ap, sym, ◌∙◌, subst}
use Rattle.shared_row.specs.Rows.{marks_of}
use Rattle.present.specs.Rows.{AgreeUnmarked}
use Rattle.present.proofs.RunMarks.{agree_run}
use Rattle.present.proofs.rows.agree.Goals as goal

pub returns-in-Run : goal.returns-in-Run
returns-in-Run c h =
    let n = length c.args.new.now in
    subst (λ m. AgreeUnmarked c.args.old.now c.args.new.now (marks_of n m)) (sym c.in-Run.is)
    (agree_run n c.in-Run.from c.in-Run.end (ap (λ m. length (marks_of n m)) (sym c.in-Run.is) ∙ c.requires.marks)
    c.args.old.now c.args.new.now (c.agree_beside.ensures h))
