use Rattle.witness.specs.Witnesses.{IsTrial}
use Rattle.witness.proofs.shorten.shorten_list.Given as goal

abbrev pub invariant-tails : goal.invariant-tails
invariant-tails l = IsTrial l.trials l.kept

abbrev pub invariant-zeros : goal.invariant-zeros
invariant-zeros l = IsTrial l.trials l.kept

abbrev pub invariant-numbers : goal.invariant-numbers
invariant-numbers l = IsTrial l.trials l.kept
