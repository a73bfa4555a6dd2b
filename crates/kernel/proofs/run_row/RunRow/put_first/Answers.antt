use Rattle.std.proofs.Common.{◌≡◌, ◌∙◌, true, sym, ap, set, subst, arith}
use Rattle.shared_row.specs.declared.marks.Marks.{Marks}
use Rattle.shared_row.specs.declared.marks.Marks.TheVariants as kinds
use Rattle.kernel.specs.Rows.{HaveMarks, run_parts}
use Rattle.kernel.proofs.OwnCells.{cell_in_all, cell_in_run, set_back}
use Rattle.kernel.proofs.run_row.RunRow.put_first.Goals as goal

pub returns-then-at-len : goal.returns-then-at-len
returns-then-at-len c =
    let row = c.self.inside in
    let own = row.own.items in
    let have : HaveMarks row.lent.now own (kinds.Run c.in-Run.first c.in-Run.field-1) =
    subst (λ (s : Marks). HaveMarks row.lent.now own s) c.in-Run.is c.self.invariant in
    let is : run_parts row.first row.lent.now own (kinds.Run c.in-Run.first c.in-Run.field-1) ≡ c.args.self.now =
    ap (run_parts row.first row.lent.now own) (sym c.in-Run.is) ∙ c.self.view_is in
    record {
      put =
          ap (run_parts row.first row.lent.now (set own c.args.at c.args.v)) c.in-Run.is
          ∙ cell_in_run row.first row.lent.now own c.in-Run.first c.in-Run.field-1 c.args.at c.args.v c.args.self.now
          have.1.0 c.if-first-at.true (omega (arith, c.len.ensures, c.if-at-len.true)) is;
    }

pub returns : goal.returns
returns c =
    let row = c.self.inside in
    let own = c.become_each.new.own.items in
    let marks = c.in-Each.marks in
    let have : HaveMarks row.lent.now own (kinds.Each marks) =
    subst (λ (s : Marks). HaveMarks row.lent.now own s) c.in-Each.is c.become_each.ensures.marks in
    let is : run_parts row.first row.lent.now own (kinds.Each marks) ≡ c.args.self.now =
    ap (run_parts row.first row.lent.now own) (sym c.in-Each.is) ∙ c.become_each.ensures.same row.first
    ∙ c.self.view_is in
    record {
      put =
          cell_in_all row.first row.lent.now own marks.items c.args.at c.args.v c.args.self.now _ _ have.1 is
          (set_back c.become_each.new.own c.deref_mut.result.now c.put_marked.new.cells c.args.at c.args.v
          c.deref_mut.ensures.value c.deref_mut.ensures.len c.put_marked.ensures.cells)
          (set_back marks c.deref_mut-in-Each.result.now c.put_marked.new.marks c.args.at true
          c.deref_mut-in-Each.ensures.value c.deref_mut-in-Each.ensures.len c.put_marked.ensures.marks);
    }
