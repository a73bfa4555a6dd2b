use Rattle.std.proofs.Common.{◌≡◌, length}
use Rattle.c_grammar.specs.Allocations.{numbered}
use Rattle.c_terminals.specs.Ahead.{ahead}
use Rattle.c_written.proofs.allocations.numbered.Given as goal

abbrev pub invariant-numbers : goal.invariant-numbers
invariant-numbers l = numbered l.value (ahead l.ahead) ≡ numbered 1 (ahead l.fn.start)

abbrev pub decreases-numbers : goal.decreases-numbers
decreases-numbers l = length (ahead l.ahead)
