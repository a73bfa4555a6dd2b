use Rattle.std.proofs.Common.{length}
use Rattle.c_lines.proofs.places.place_in.Given as goal

abbrev pub decreases-bytes : goal.decreases-bytes
decreases-bytes l = length l.rest
