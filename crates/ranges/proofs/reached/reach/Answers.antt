use Rattle.std.proofs.Common.{ap, subst}
use Rattle.std.specs.Prelude.{◌||◌}
use Rattle.base.specs.declared.tree.ArrayId.{ArrayId}
use Rattle.bits.specs.declared.set.BitSet.{BitSet}
use Rattle.bits.specs.Sets.{has}
use Rattle.ranges.specs.Cells.{row_of}
use Rattle.ranges.specs.Reach.{IsLeastRun, touched_by}
use Rattle.ranges.proofs.LeastRuns.{least_more}
use Rattle.ranges.proofs.reached.reach.Goals as goal

pub arrays-preserved : goal.arrays-preserved
arrays-preserved c =
    let s = c.run_of.result in
    let f = c.args.footprint.now in
    least_more (touched_by f) c.arrays.a c.arrays.runs.items c.push.new.self.items s
    (ap (λ (a : ArrayId). a.0) c.run_of.ensures.array)
    (subst (λ (w : BitSet). IsLeastRun (λ i. has (row_of f.read c.arrays.a) i || has w i) s) c.row-in-arrays.ensures
    (subst (λ (r : BitSet). IsLeastRun (λ i. has r i || has c.row-in-arrays.result.now i) s) c.row.ensures
    c.run_of.ensures.least))
    c.in_ok-push.ensures.items c.arrays.invariant
