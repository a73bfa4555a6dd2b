use Rattle.std.proofs.Common.{◌≡◌, ◌++◌, map}
use Rattle.std.specs.Prelude.{filter}
use Rattle.std.specs.List.{range_with_len}
use Rattle.base.specs.declared.item.Event.TheVariants as event
use Rattle.taskgraph.specs.Board.{allows}
use Rattle.device.proofs.enabled.add_openings.Given as goal

abbrev pub invariant-loop-i : goal.invariant-loop-i
invariant-loop-i l =
    l.events.items ≡ l.fn.events.items ++ filter (allows l.graph) (map event.Open (range_with_len 0 l.i))
