use Rattle.std.proofs.Common.{length, refl, ap, sym, ◌∙◌, subst}
use Rattle.shared_row.specs.Rows.{marks_of}
use Rattle.present.specs.Rows.{Takes, marked_at}
use Rattle.present.proofs.RunMarks.{run_taken}
use Rattle.present.proofs.rows.store_values.Goals as goal

pub returns-in-Run : goal.returns-in-Run
returns-in-Run c =
    let n = length c.args.numbers.now in
    let old = c.args.values.now in
    let new = c.load_values.new.numbers in
    subst (λ m. Takes (marked_at c.args.first c.args.numbers.now (marks_of n m)) c.args.start old new) (sym c.in-Run.is)
    (run_taken n c.in-Run.from c.in-Run.end (ap (λ m. length (marks_of n m)) (sym c.in-Run.is) ∙ c.requires.marks)
    c.args.numbers.now old new c.args.first c.args.start c.saturating_add.result refl c.saturating_add.ensures
    c.requires.bound c.load_values.ensures)
