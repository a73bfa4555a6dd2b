use Rattle.std.proofs.Common.{take, flat_map}
use Rattle.std.specs.Io.KnownBytes.{Appends}
use Rattle.report.specs.Runs.{event_line}
use Rattle.report.proofs.run.log_text.Given as goal

abbrev pub invariant-events : goal.invariant-events
invariant-events g l = Appends (g.W.Write.contents l.initial.out) (g.W.Write.contents l.out)
    (flat_map event_line (take l.event-index l.history))
