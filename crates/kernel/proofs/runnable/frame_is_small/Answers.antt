use Rattle.std.proofs.Common.{ℕ, List, subst}
use Rattle.kernel.specs.declared.frames.Row.{Row}
use Rattle.kernel.specs.Runnable.{AreNumbers, HaveNumbers}
use Rattle.kernel.proofs.Runnables.{bounded, scalar}
use Rattle.kernel.proofs.runnable.frame_is_small.Goals as goal

pub returns-clause-loops : goal.returns-clause-loops
returns-clause-loops c = subst (λ (xs : List ℕ). AreNumbers xs) c.as_slice.ensures c.are_numbers.ensures

pub returns-clause-view : goal.returns-clause-view
returns-clause-view c =
    bounded c.args.frame.now.rows.items
    (subst (λ (rows : List Row). HaveNumbers rows) c.deref.ensures.value c.have_numbers.ensures)

pub returns-clause-scalars : goal.returns-clause-scalars
returns-clause-scalars c x =
    scalar c.args.frame.now.scalars x
    (subst (λ (xs : List ℕ). AreNumbers xs) c.numbers.ensures.same c.are_numbers-2.ensures)
