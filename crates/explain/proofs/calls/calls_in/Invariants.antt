use Rattle.std.proofs.Common.{length}
use Rattle.c_tokens.specs.Ahead.{ahead}
use Rattle.explain.proofs.calls.calls_in.Given as goal

abbrev pub decreases-tokens : goal.decreases-tokens
decreases-tokens l = length (ahead l.stream)
