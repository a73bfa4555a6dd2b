use Rattle.std.proofs.Common.{◌≡◌, length}
use Rattle.c_grammar.specs.Expressions.{reduce}
use Rattle.c_written.specs.Stack.{held}
use Rattle.c_written.specs.Work.{waiting_of}
use Rattle.c_written.specs.Reader.{IsKept}
use Rattle.c_written.proofs.expressions.Reader.reduce.Given as goal

abbrev pub invariant-waiting : goal.invariant-waiting
invariant-waiting l = record {
  same : reduce l.tightness (waiting_of l.self.waiting) l.value ≡ reduce l.fn.tightness (waiting_of l.fn.self.waiting) l.fn.value;
  kept : IsKept l.fn.self l.self;
}

abbrev pub decreases-waiting : goal.decreases-waiting
decreases-waiting l = length (held l.self.waiting)
