use Rattle.std.proofs.Common.{◌≡◌, ◌+◌, ◌-◌, ◌*◌, ◌≤◌}
use Rattle.ranges.specs.Cases.{AreTurns, body_at}
use Rattle.ranges.specs.Slides.{AllFit}
use Rattle.ranges.proofs.blocks.block_slides.Given as goal

abbrev pub invariant-loop-done : goal.invariant-loop-done
invariant-loop-done l = record {
  few : l.done ≤ l.turns;
  first : l.first ≡ l.all.first + l.step * l.done;
  here : l.here.items ≡ l.loops;
  are : AreTurns l.all l.step l.done (body_at l.body l.loops l.certain) l.slides.items;
  fit : AllFit l.lengths (l.all.end - l.all.first) l.slides.items;
}

abbrev pub decreases-loop-done : goal.decreases-loop-done
decreases-loop-done l = l.turns - l.done
