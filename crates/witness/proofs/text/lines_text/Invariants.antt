use Rattle.std.proofs.Common.{drop, true}
use Rattle.witness.specs.Texts.{prefixed}
use Rattle.witness.proofs.Told.{IsFront}
use Rattle.witness.proofs.text.lines_text.Given as goal

abbrev pub invariant-bytes : goal.invariant-bytes
invariant-bytes g l =
    IsFront (g.W.Write.contents l.initial.out) (g.W.Write.contents l.out) (prefixed l.word true l.lines)
    (prefixed l.word l.begins (drop l.byte-index l.lines))
