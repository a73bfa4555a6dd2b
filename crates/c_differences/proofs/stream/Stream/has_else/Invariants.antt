use Rattle.std.proofs.Common.{length}
use Rattle.c_differences.proofs.stream.Stream.has_else.Given as goal

abbrev pub decreases-tokens : goal.decreases-tokens
decreases-tokens l = length l.rest
