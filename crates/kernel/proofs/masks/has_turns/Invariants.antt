use Rattle.kernel.proofs.MaskRows.{NoMark}
use Rattle.kernel.proofs.masks.has_turns.Given as goal

abbrev pub invariant-lanes : goal.invariant-lanes
invariant-lanes l = NoMark l.mask l.part-index
