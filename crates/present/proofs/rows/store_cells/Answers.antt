use Rattle.std.proofs.Common.{length, sym, subst}
use Rattle.shared_row.specs.Rows.{marks_of, numbers_in, numbers_of}
use Rattle.present.specs.Rows.{Takes, marked_at}
use Rattle.present.proofs.rows.store_cells.Goals as goal

pub returns-then-adopts : goal.returns-then-adopts
returns-then-adopts c =
    let numbers = numbers_in c.args.cells.now in
    subst (λ s. Takes (marked_at c.args.first numbers (marks_of (length numbers) c.args.marks.now)) s
    (numbers_of c.args.values.now) (numbers_of c.adopts.new.values))
    (sym c.if-start-first.true) (c.adopts.ensures.adopted c.if-adopts.true c.args.first)
