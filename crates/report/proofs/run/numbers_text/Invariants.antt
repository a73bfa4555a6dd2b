use Rattle.std.proofs.Common.{take, flat_map}
use Rattle.std.specs.Io.KnownBytes.{Appends}
use Rattle.report.specs.Runs.{spaced}
use Rattle.report.proofs.run.numbers_text.Given as goal

abbrev pub invariant-numbers : goal.invariant-numbers
invariant-numbers g l = Appends (g.W.Write.contents l.initial.out) (g.W.Write.contents l.out)
    (flat_map spaced (take l.number-index l.numbers))
