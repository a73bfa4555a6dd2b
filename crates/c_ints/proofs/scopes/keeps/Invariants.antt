use Rattle.std.proofs.Common.{◌≡◌, false}
use Rattle.c_ints.specs.Ints.{keeps, max_scope}
use Rattle.c_ints.specs.Parts.{seen_kind}
use Rattle.c_terminals.specs.Ahead.{ahead}
use Rattle.c_ints.proofs.scopes.keeps.Given as goal

abbrev pub invariant-tokens : goal.invariant-tokens
invariant-tokens l =
    keeps l.left (seen_kind l.kind) l.name l.typed l.depth (ahead l.ahead)
    ≡ keeps max_scope (seen_kind l.kind) l.name false 0 (ahead l.start)

abbrev pub decreases-tokens : goal.decreases-tokens
decreases-tokens l = l.left
