use Rattle.std.proofs.Common.{◌≡◌, false}
use Rattle.c_temporaries.specs.Temporaries.{max_scope, stays}
use Rattle.c_terminals.specs.Ahead.{ahead}
use Rattle.c_temporaries.proofs.scopes.stays.Given as goal

abbrev pub invariant-tokens : goal.invariant-tokens
invariant-tokens l =
    stays l.left l.name l.typed l.depth (ahead l.ahead) ≡ stays max_scope l.name false 0 (ahead l.start)

abbrev pub decreases-tokens : goal.decreases-tokens
decreases-tokens l = l.left
