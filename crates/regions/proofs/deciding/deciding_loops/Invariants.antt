use Rattle.regions.specs.Deciding.{AreDeciding}
use Rattle.regions.proofs.deciding.deciding_loops.Given as goal

abbrev pub invariant-levels : goal.invariant-levels
invariant-levels l = AreDeciding l.region l.level l.marks.items
