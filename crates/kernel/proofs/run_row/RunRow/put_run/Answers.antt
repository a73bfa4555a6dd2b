use Rattle.std.proofs.Common.{◌≡◌, ◌∙◌, sym, ap, subst, arith}
use Rattle.std.proofs.lemmas.List.{with_items_is}
use Rattle.shared_row.specs.declared.marks.Marks.{Marks}
use Rattle.shared_row.specs.declared.marks.Marks.TheVariants as kinds
use Rattle.kernel.specs.Lanes.{all_of}
use Rattle.kernel.specs.Rows.{HaveMarks, run_parts}
use Rattle.kernel.proofs.OwnCells.{run_in_all}
use Rattle.kernel.proofs.run_row.RunRow.put_run.Goals as goal

pub returns : goal.returns
returns c =
    let row = c.self.inside in
    let own = c.become_each.new.own in
    let marks = c.in-Each.marks in
    let have : HaveMarks row.lent.now own.items (kinds.Each marks) =
    subst (λ (s : Marks). HaveMarks row.lent.now own.items s) c.in-Each.is c.become_each.ensures.marks in
    let is : run_parts row.first row.lent.now own.items (kinds.Each marks) ≡ c.args.self.now =
    ap (run_parts row.first row.lent.now own.items) (sym c.in-Each.is) ∙ c.become_each.ensures.same row.first
    ∙ c.self.view_is ∙ c.in_ok-put_beside.ensures.same c.if-branch.false ∙ c.begin_at.ensures.same in
    run_in_all all_of c.args.numbers.now row.first row.lent.now own.items marks.items c.args.at c.args.self.now
    _ c.put_numbers.new.cells _ _ c.mark_run.new.marks _ have.1 is c.deref_mut.ensures.value c.put_numbers.ensures
    c.deref_mut-in-Each.ensures.value c.mark_run.ensures
    (with_items_is own c.put_numbers.new.cells (omega (arith, c.put_numbers.ensures.size, c.deref_mut.ensures.len)))
    (with_items_is marks c.mark_run.new.marks
    (omega (arith, c.mark_run.ensures.size, c.deref_mut-in-Each.ensures.len)))
