use Rattle.std.proofs.Common.{◌≡◌, length}
use Rattle.c_grammar.specs.Needless.{declared}
use Rattle.c_terminals.specs.Ahead.{ahead}
use Rattle.c_needless.proofs.prototypes.declared.Given as goal

abbrev pub invariant-words : goal.invariant-words
invariant-words l = declared l.more (ahead l.ahead) ≡ declared 0 (ahead l.start)

abbrev pub decreases-words : goal.decreases-words
decreases-words l = length (ahead l.ahead)
