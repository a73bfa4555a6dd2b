use Rattle.kernel.specs.Loops.{AreApartFor, loose_in}
use Rattle.kernel.specs.Offsets.{here_in}
use Rattle.kernel.proofs.Anys.{Enough}
use Rattle.kernel.proofs.apart.+apart.Given as goal

abbrev pub invariant-branch_apart-loop-s : goal.invariant-branch_apart-loop-s
invariant-branch_apart-loop-s l = Enough (AreApartFor (here_in l.body l.at) l.body (loose_in l.body l.before)) l.all l.s-index
