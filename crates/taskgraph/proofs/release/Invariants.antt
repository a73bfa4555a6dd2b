use Rattle.std.proofs.Common.{map}
use Rattle.taskgraph.specs.Board.{task_facts}
use Rattle.taskgraph.specs.Waiting.{AreFree}
use Rattle.taskgraph.proofs.Releases.{Loop}
use Rattle.taskgraph.proofs.release.Given as goal

abbrev pub invariant-later : goal.invariant-later
invariant-later l = record {
  counts : Loop l.tasks l.starts l.item l.later l.fn.missing l.missing;
  ready : AreFree (map task_facts l.tasks) l.stages l.missing l.ready;
}
