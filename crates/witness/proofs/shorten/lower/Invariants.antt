use Rattle.witness.specs.Witnesses.{IsTrial}
use Rattle.witness.proofs.shorten.lower.Given as goal

abbrev pub invariant-cuts : goal.invariant-cuts
invariant-cuts l = IsTrial l.trials l.kept
