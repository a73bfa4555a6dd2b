use Rattle.std.proofs.Common.{take, flat_map}
use Rattle.std.specs.Io.KnownBytes.{Appends}
use Rattle.report.specs.Runs.{final_line}
use Rattle.report.proofs.run.finals_text.Given as goal

abbrev pub invariant-arrays : goal.invariant-arrays
invariant-arrays g l = Appends (g.W.Write.contents l.initial.out) (g.W.Write.contents l.out)
    (flat_map (final_line l.program) (take l.array-index l.finals))
