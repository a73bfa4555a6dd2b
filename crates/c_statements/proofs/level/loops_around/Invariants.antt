use Rattle.std.proofs.Common.{◌≡◌}
use Rattle.c_expressions.proofs.Contexts.{names_until}
use Rattle.c_statements.specs.Simple.{loops_in}
use Rattle.c_statements.proofs.level.loops_around.Given as goal

abbrev pub invariant-frames : goal.invariant-frames
invariant-frames l = l.count ≡ loops_in (names_until l.scope.frames.items l.frame-index)
