use Rattle.std.proofs.Common.{◌≡◌, ◌++◌}
use Rattle.c_grammar.specs.Locals.{numbers}
use Rattle.c_locals.proofs.loops.numbers.Given as goal

abbrev pub invariant-turns : goal.invariant-turns
invariant-turns l =
    l.numbers.items ++ numbers l.left l.number l.step l.end ≡ numbers l.fn.most l.fn.first l.fn.step l.fn.end

abbrev pub decreases-turns : goal.decreases-turns
decreases-turns l = l.left
