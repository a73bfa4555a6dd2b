use Rattle.std.proofs.Common.{◌≡◌, length}
use Rattle.c_terminals.specs.Ahead.{ahead}
use Rattle.c_terminals.proofs.ahead.Ahead.next.Given as goal

abbrev pub invariant-lines : goal.invariant-lines
invariant-lines l = ahead l.self ≡ ahead l.fn.self

abbrev pub decreases-lines : goal.decreases-lines
decreases-lines l = length l.self.rest.now
