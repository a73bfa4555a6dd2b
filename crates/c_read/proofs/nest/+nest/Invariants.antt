use Rattle.std.proofs.Common.{◌+◌, ◌*◌}
use Rattle.c_read.proofs.nest.+nest.Given as goal

abbrev pub decreases-nest : goal.decreases-nest
decreases-nest l = 4 * l.depth + 2

abbrev pub decreases-nest_body : goal.decreases-nest_body
decreases-nest_body l = 4 * l.depth + 1

abbrev pub decreases-nested : goal.decreases-nested
decreases-nested l = 4 * l.depth + 4

abbrev pub decreases-next_loop : goal.decreases-next_loop
decreases-next_loop l = 4 * l.depth + 3
