use Rattle.kernel.proofs.Namings.{AreSomeNamed}
use Rattle.kernel.proofs.named.+named.Given as goal

abbrev pub invariant-named-loop-s : goal.invariant-named-loop-s
invariant-named-loop-s l = AreSomeNamed l.all l.s-index
