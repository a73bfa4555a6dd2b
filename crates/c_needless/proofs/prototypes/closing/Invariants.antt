use Rattle.std.proofs.Common.{◌≡◌, length}
use Rattle.c_grammar.specs.Needless.{closing}
use Rattle.c_terminals.specs.Ahead.{ahead}
use Rattle.c_needless.proofs.prototypes.closing.Given as goal

abbrev pub invariant-tokens : goal.invariant-tokens
invariant-tokens l = closing l.depth l.count (ahead l.ahead) ≡ closing 0 l.more (ahead l.rest)

abbrev pub decreases-tokens : goal.decreases-tokens
decreases-tokens l = length (ahead l.ahead)
