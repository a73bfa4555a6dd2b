use Rattle.mend.specs.Mends.{IsAcceptedOf}
use Rattle.mend.proofs.tidy.tidied.Given as goal

abbrev pub invariant-loop-number : goal.invariant-loop-number
invariant-loop-number l = IsAcceptedOf l.bare l.kept.items
