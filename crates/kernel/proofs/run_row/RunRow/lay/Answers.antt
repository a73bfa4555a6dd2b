use Rattle.std.proofs.Common.{◌≡◌, ◌∙◌, refl, sym, ap, subst, arith}
use Rattle.std.proofs.lemmas.Result.{on_ok_weaker}
use Rattle.shared_row.specs.declared.marks.Marks.{Marks}
use Rattle.shared_row.specs.declared.marks.Marks.TheVariants as kinds
use Rattle.kernel.specs.Rows.{HaveMarks, run_parts}
use Rattle.kernel.proofs.Laying.{each_laid, none_laid, run_laid}
use Rattle.kernel.proofs.run_row.RunRow.lay.Goals as goal

pub returns-in_ok-put_run-in-Run : goal.returns-in_ok-put_run-in-Run
returns-in_ok-put_run-in-Run c =
    let o = c.over.inside in
    let have : HaveMarks o.lent.now o.own.items (kinds.Run c.in-Run.first c.in-Run.end) =
    subst (λ (s : Marks). HaveMarks o.lent.now o.own.items s) c.in-Run.is c.over.invariant in
    run_laid c.args.self.now c.args.over.now c.put_run.new.self o.first o.lent.now o.own.items c.deref.result.now
    c.in-Run.first c.in-Run.end c.requires c.deref.ensures.value have
    (ap (run_parts o.first o.lent.now o.own.items) (sym c.in-Run.is) ∙ c.over.view_is) c.in_ok-put_run-in-Run.ensures

pub returns-else-first-end : goal.returns-else-first-end
returns-else-first-end c =
    let o = c.over.inside in
    let have : HaveMarks o.lent.now o.own.items (kinds.Run c.in-Run.first c.in-Run.end) =
    subst (λ (s : Marks). HaveMarks o.lent.now o.own.items s) c.in-Run.is c.over.invariant in
    none_laid c.args.self.now c.args.over.now c.args.self.now o.first o.lent.now o.own.items o.own.items c.in-Run.first
    c.in-Run.end c.requires refl have
    (ap (run_parts o.first o.lent.now o.own.items) (sym c.in-Run.is) ∙ c.over.view_is) (omega (arith, c.if-first-end.false))

pub returns-in-Each : goal.returns-in-Each
returns-in-Each c =
    let o = c.over.inside in
    let have : HaveMarks o.lent.now o.own.items (kinds.Each c.in-Each.marks) =
    subst (λ (s : Marks). HaveMarks o.lent.now o.own.items s) c.in-Each.is c.over.invariant in
    on_ok_weaker c.put_some.result
    (λ h. each_laid c.args.self.now c.args.over.now c.put_some.new.self o.first o.lent.now o.own.items
    c.deref-in-Each.result.now c.in-Each.marks.items c.deref-in-Each-2.result.now c.requires c.deref-in-Each.ensures.value
    c.deref-in-Each-2.ensures.value have.0 have.1
    (ap (run_parts o.first o.lent.now o.own.items) (sym c.in-Each.is) ∙ c.over.view_is) h) c.put_some.ensures
