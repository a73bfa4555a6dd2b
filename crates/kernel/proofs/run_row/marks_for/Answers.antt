use Rattle.std.proofs.Common.{◌∙◌, ◌-◌, Bool, true, List, subst, arith}
use Rattle.std.proofs.lemmas.List.{with_items_is}
use Rattle.kernel.specs.Lanes.{Over, all_of}
use Rattle.kernel.proofs.OwnCells.{marks_made}
use Rattle.kernel.proofs.run_row.marks_for.Goals as goal

pub returns : goal.returns
returns c =
    with_items_is c.in_ok-marks.marks c.mark_run.new.marks
    (omega (arith, c.mark_run.ensures.size, c.deref_mut.ensures.len))
    ∙ marks_made c.args.n c.args.first c.args.end c.mark_run.new.marks c.requires.0 c.requires.1
    (subst (λ (ms : List Bool). Over Bool all_of (λ k. true) c.args.first (c.args.end - c.args.first) ms
    c.mark_run.new.marks)
    (c.deref_mut.ensures.value ∙ c.in_ok-marks.ensures.items_if_clones_equal (λ y e. e)) c.mark_run.ensures)
