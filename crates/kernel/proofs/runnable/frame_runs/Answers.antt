use Rattle.std.proofs.Common.{ℕ, List, subst}
use Rattle.kernel.specs.declared.frames.Row.{Row}
use Rattle.kernel.specs.Runnable.{AreNumbers, HaveNumbers}
use Rattle.kernel.proofs.Runnables.{runs_on}
use Rattle.kernel.proofs.runnable.frame_runs.Goals as goal

pub returns : goal.returns
returns c =
    let f = c.args.frame.now in
    runs_on c.region_runs.ensures f.loops.now.values.items f.rows.items f.scalars f.input.now
    (subst (λ (rows : List Row). HaveNumbers rows) c.deref.ensures.value c.have_numbers.ensures)
    (subst (λ (xs : List ℕ). AreNumbers xs) c.as_slice.ensures c.are_numbers.ensures)
    (subst (λ (xs : List ℕ). AreNumbers xs) c.numbers.ensures.same c.are_numbers-2.ensures) c.are_numbers-3.ensures
