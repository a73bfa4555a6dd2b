use Rattle.std.proofs.Common.{◌≡◌, ◌+◌, length, take}
use Rattle.std.specs.Prelude.{filter}
use Rattle.taskgraph.specs.Board.{allows}
use Rattle.device.proofs.allowed.nth_of.Given as goal

abbrev pub invariant-events : goal.invariant-events
invariant-events l = l.left + length (filter (allows l.graph) (take l.event-index l.events)) ≡ l.fn.place
