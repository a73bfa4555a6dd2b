use Rattle.c_tokens.specs.Ahead.{ahead}
use Rattle.mend.proofs.Kept.{IsKept}
use Rattle.mend.proofs.bare.without_directives.Given as goal

abbrev pub invariant-loop-token : goal.invariant-loop-token
invariant-loop-token l =
    (goal.iterator-loop-token).can_next l.token-iterator × (goal.iterator-loop-token).is_finite l.token-iterator ×
    IsKept l.bytes l.kept.items l.next (ahead l.token-iterator)
