use Rattle.std.proofs.Common.{◌≡◌}
use Rattle.c_expressions.specs.Means.{meaning_of}
use Rattle.c_expressions.proofs.Contexts.{names_until}
use Rattle.c_expressions.proofs.scope.Scope.meaning.Given as goal

abbrev pub invariant-frames : goal.invariant-frames
invariant-frames l = l.found ≡ meaning_of (names_until l.self.frames.items l.frame-index) l.name
