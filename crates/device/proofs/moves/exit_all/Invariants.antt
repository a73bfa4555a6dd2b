use Rattle.base.specs.Map.{leave}
use Rattle.device.proofs.Moving.{InTheMidst}
use Rattle.device.proofs.moves.exit_all.Given as goal

abbrev pub invariant-loop-i : goal.invariant-loop-i
invariant-loop-i l = InTheMidst leave l.maps l.i l.fn.table l.fn.host l.table l.host
