use Rattle.base.specs.Items.{plan}
use Rattle.mapcheck.specs.Noted.{IsSeen, IsTouched}
use Rattle.mapcheck.proofs.NotedCells.{is_below}
use Rattle.mapcheck.proofs.noted.Noted.note_set.Given as goal

abbrev pub invariant-arrays : goal.invariant-arrays
invariant-arrays l =
    IsSeen (plan l.order) l.fn.self l.self l.touch.item (IsTouched l.touch (is_below l.set l.a)) l.clear
