use Rattle.std.proofs.Common.{subst, sym, arith, List}
use Rattle.ranges.specs.declared.run_list.Run.{Run}
use Rattle.ranges.specs.Cells.{has}
use Rattle.ranges.specs.RunLists.{AreRunsUpTo}
use Rattle.ranges.proofs.RunSteps.{all_runs, no_runs}
use Rattle.ranges.proofs.cells.CellSet.runs.Goals as goal

pub arrays-init : goal.arrays-init
arrays-init c =
    subst (λ (runs : List Run). AreRunsUpTo (has c.args.self.now) 0 0 runs) (sym c.new-runs.ensures.items) (no_runs (has c.args.self.now))

pub returns : goal.returns
returns c =
    all_runs (has c.args.self.now) c.arrays.a c.arrays.runs.items
    (λ d le. let last = c.arrays-test.false in c.arrays-a-end.ensures.none d (omega (arith, last, le)))
    c.arrays.invariant
