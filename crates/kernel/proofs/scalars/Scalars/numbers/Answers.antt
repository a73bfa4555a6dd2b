use Rattle.std.proofs.Common.{◌∙◌, List, ℕ, subst}
use Rattle.kernel.specs.Runnable.{AreNumbers}
use Rattle.kernel.proofs.Runnables.{scalar}
use Rattle.kernel.proofs.scalars.Scalars.numbers.Goals as goal

pub returns-clause-small : goal.returns-clause-small
returns-clause-small c x =
    scalar c.args.self.now x (subst (λ (xs : List ℕ). AreNumbers xs) (c.deref.ensures.value ∙ c.self.view_is) c.are_numbers.ensures)
