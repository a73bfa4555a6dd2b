use Rattle.std.proofs.Common.{◌≡◌, ◌+◌, ◌++◌, drop, map}
use Rattle.c_grammar.specs.Functions.{array_names}
use Rattle.c_written.specs.Functions.{all_declared}
use Rattle.c_written.proofs.functions.Source.arrays.Given as goal

abbrev pub invariant-declared : goal.invariant-declared
invariant-declared l = record {
  same : map (λ x. x.now) l.arrays.items ++ array_names l.number (all_declared (drop l.one-index l.declared))
      ≡ array_names l.self.next (all_declared l.declared);
  next : l.number ≡ l.self.next + l.one-index;
}
