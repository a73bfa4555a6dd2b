use Rattle.std.proofs.Common.{◌≡◌, length}
use Rattle.c_grammar.specs.Allocations.{counted}
use Rattle.c_terminals.specs.Ahead.{ahead}
use Rattle.c_written.proofs.allocations.counted.Given as goal

abbrev pub invariant-numbers : goal.invariant-numbers
invariant-numbers l = counted l.name l.last l.value (ahead l.ahead) ≡ counted l.name l.last 1 (ahead l.fn.start)

abbrev pub decreases-numbers : goal.decreases-numbers
decreases-numbers l = length (ahead l.ahead)
