use Rattle.std.proofs.Common.{length}
use Rattle.c_lines.proofs.places.from_line.Given as goal

abbrev pub decreases-lines : goal.decreases-lines
decreases-lines l = length l.rest
