use Rattle.std.proofs.Common.{◌≡◌, length}
use Rattle.c_grammar.specs.Conditions.{reduce}
use Rattle.c_written.specs.Conditions.{waiting_of}
use Rattle.c_written.specs.Stack.{held}
use Rattle.c_written.proofs.condition.Reader.reduce.Given as goal

abbrev pub invariant-waiting : goal.invariant-waiting
invariant-waiting l =
    reduce l.tightness (waiting_of l.self.waiting) l.value ≡ reduce l.fn.tightness (waiting_of l.fn.self.waiting) l.fn.value

abbrev pub decreases-waiting : goal.decreases-waiting
decreases-waiting l = length (held l.self.waiting)
