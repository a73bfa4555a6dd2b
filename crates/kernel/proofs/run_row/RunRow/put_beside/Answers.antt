use Rattle.std.proofs.Common.{◌≡◌, ◌∙◌, ◌≤◌, ◌+◌, length, sym, ap, subst, arith}
use Rattle.std.specs.Vec.{with_items}
use Rattle.std.proofs.lemmas.List.{with_items_is}
use Rattle.shared_row.specs.declared.marks.Marks.{Marks}
use Rattle.shared_row.specs.declared.marks.Marks.TheVariants as kinds
use Rattle.kernel.specs.Lanes.{HasPut, all_of}
use Rattle.kernel.specs.Rows.{HaveMarks, Parts, run_parts}
use Rattle.kernel.proofs.OwnCells.{row_size, run_behind, run_in_run}
use Rattle.kernel.proofs.run_row.RunRow.put_beside.Goals as goal

pub returns-then-at-end-clause-put : goal.returns-then-at-end-clause-put
returns-then-at-end-clause-put c =
    let row = c.self.inside in
    let own = row.own.items in
    let have : HaveMarks row.lent.now own (kinds.Run c.in-Run.first c.in-Run.end) =
    subst (λ (s : Marks). HaveMarks row.lent.now own s) c.in-Run.is c.self.invariant in
    let is : run_parts row.first row.lent.now own (kinds.Run c.in-Run.first c.in-Run.end) ≡ c.args.self.now =
    ap (run_parts row.first row.lent.now own) (sym c.in-Run.is) ∙ c.self.view_is in
    let size : length c.args.self.now.1 ≡ length row.lent.now =
    ap (λ (p : Parts). length p.1) (sym is) ∙ row_size row.lent.now own have.1.1 in
    let fits : c.args.at + length c.args.numbers.now ≤ length row.lent.now = omega (arith, c.requires) in
    λ _. run_behind c.args.numbers.now row.first row.lent.now own c.in-Run.first c.in-Run.end c.args.at c.args.self.now
    c.extend_from_slice.new.self.items have.1.0 have.0 c.if-at-end.true fits is c.in_ok-extend_from_slice.ensures.items

pub returns-then-at-numbers-clause-put : goal.returns-then-at-numbers-clause-put
returns-then-at-numbers-clause-put c =
    let row = c.self.inside in
    let own = row.own.items in
    let have : HaveMarks row.lent.now own (kinds.Run c.in-Run.first c.in-Run.end) =
    subst (λ (s : Marks). HaveMarks row.lent.now own s) c.in-Run.is c.self.invariant in
    let is : run_parts row.first row.lent.now own (kinds.Run c.in-Run.first c.in-Run.end) ≡ c.args.self.now =
    ap (run_parts row.first row.lent.now own) (sym c.in-Run.is) ∙ c.self.view_is in
    let now = (with_items row.own c.put_numbers.new.cells).items in
    λ _. subst (λ (s : Marks). HasPut all_of c.args.at c.args.numbers.now c.args.self.now
    (run_parts row.first row.lent.now now s)) (sym c.in-Run.is)
    (run_in_run c.args.numbers.now row.first row.lent.now own c.in-Run.first c.in-Run.end c.args.at c.args.self.now
    _ c.put_numbers.new.cells now have.1.0 c.if-first-at.true c.if-at-numbers.true is c.deref_mut.ensures.value
    c.put_numbers.ensures
    (with_items_is row.own c.put_numbers.new.cells
    (omega (arith, c.put_numbers.ensures.size, c.deref_mut.ensures.len))))
