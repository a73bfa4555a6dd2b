use Rattle.std.proofs.Common.{◌∙◌, sym, ap, subst, arith}
use Rattle.shared_row.specs.declared.marks.Marks.{Marks}
use Rattle.shared_row.specs.declared.marks.Marks.TheVariants as kinds
use Rattle.kernel.specs.Rows.{HaveMarks, run_parts}
use Rattle.kernel.proofs.OwnCells.{begun}
use Rattle.kernel.proofs.run_row.RunRow.begin_at.Goals as goal

pub returns-in_ok-self-inside : goal.returns-in_ok-self-inside
returns-in_ok-self-inside c =
    let row = c.self.inside in
    let own = row.own.items in
    let have : HaveMarks row.lent.now own (kinds.Run c.in-Run.field-0 c.in-Run.end) =
    subst (λ (s : Marks). HaveMarks row.lent.now own s) c.in-Run.is c.self.invariant in
    record {
      same =
          begun row.first row.lent.now own c.in_ok-self-inside.field-0.items c.in-Run.field-0 c.in-Run.end c.args.at
          c.if-end-eq0.true have.1.0 have.0 (omega (arith, c.if-at-self.true)) c.in_ok-self-inside.ensures
          ∙ ap (run_parts row.first row.lent.now own) (sym c.in-Run.is) ∙ c.self.view_is;
    }
