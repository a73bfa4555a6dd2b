use Rattle.std.proofs.Common.{◌≡◌, drop}
use Rattle.kernel.specs.Loops.{stored_in}
use Rattle.kernel.proofs.apart.+stored.Given as goal

abbrev pub invariant-is_stored-loop-s : goal.invariant-is_stored-loop-s
invariant-is_stored-loop-s l = stored_in (drop l.s-index l.all) l.array.0 ≡ stored_in l.all l.array.0
