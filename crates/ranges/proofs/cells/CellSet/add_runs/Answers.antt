use Rattle.std.proofs.Common.{Some, None, subst, refl}
use Rattle.std.specs.Prelude.{◌&&◌, nat_le}
use Rattle.bits.specs.declared.set.BitSet.{BitSet}
use Rattle.bits.specs.Sets.{IsFirstAt, has as has_number}
use Rattle.ranges.specs.Cells.{has}
use Rattle.ranges.specs.RunLists.{IsEndOfRun}
use Rattle.ranges.proofs.RunSteps.{no_more, run_more}
use Rattle.ranges.proofs.cells.CellSet.add_runs.Goals as goal

pub loop-first-preserved : goal.loop-first-preserved
loop-first-preserved c =
    let from = c.loop-first.from in
    let first = c.in-Some.first in
    run_more (has c.args.self.now) c.args.array.0 from c.loop-first.runs.items c.loop-first.invariant
    first c.end_of_run-from.result c.push.new.self.items _ refl refl refl
    (subst (λ (row : BitSet). IsFirstAt (λ i. nat_le from i && has_number row i) (Some first)) c.row-row.ensures c.in-Some.ensures)
    (subst (λ (row : BitSet). IsEndOfRun (has_number row) first c.end_of_run-from.result) c.row-row.ensures c.end_of_run-from.ensures.run)
    c.in_ok-push.ensures.items

pub returns : goal.returns
returns c =
    let from = c.loop-first.from in
    no_more (has c.args.self.now) c.args.array.0 from c.loop-first.runs.items c.loop-first.invariant
    (subst (λ (row : BitSet). IsFirstAt (λ i. nat_le from i && has_number row i) None) c.row-row.ensures c.in_default.ensures)
