use Rattle.std.proofs.Common.{drop}
use Rattle.witness.specs.Shell.{quoted}
use Rattle.witness.proofs.Told.{IsFront}
use Rattle.witness.proofs.shell.quoted_text.Given as goal

abbrev pub invariant-bytes : goal.invariant-bytes
invariant-bytes g l =
    IsFront (g.W.Write.contents l.initial.out) (g.W.Write.contents l.out) (quoted l.name) (quoted (drop l.byte-index l.name))
