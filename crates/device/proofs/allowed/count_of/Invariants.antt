use Rattle.std.proofs.Common.{◌≡◌, ◌≤◌, length, take}
use Rattle.std.specs.Prelude.{filter}
use Rattle.taskgraph.specs.Board.{allows}
use Rattle.device.proofs.allowed.count_of.Given as goal

abbrev pub invariant-events : goal.invariant-events
invariant-events l = record {
  count : l.count ≡ length (filter (allows l.graph) (take l.event-index l.events));
  few : l.count ≤ l.event-index;
}
