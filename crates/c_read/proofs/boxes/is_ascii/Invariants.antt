use Rattle.std.proofs.Common.{◌≡◌, length}
use Rattle.c_grammar.specs.Lines.{is_ascii}
use Rattle.c_read.proofs.boxes.is_ascii.Given as goal

abbrev pub invariant-bytes : goal.invariant-bytes
invariant-bytes l = is_ascii l.rest ≡ is_ascii l.name

abbrev pub decreases-bytes : goal.decreases-bytes
decreases-bytes l = length l.rest
