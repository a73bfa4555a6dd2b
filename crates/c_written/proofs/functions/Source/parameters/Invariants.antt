use Rattle.std.proofs.Common.{◌≡◌, ◌+◌, ◌++◌, drop, length}
use Rattle.c_grammar.specs.Blocks.{bare}
use Rattle.c_grammar.specs.Functions.{parameters_from}
use Rattle.c_written.specs.Functions.{all_declared, all_parameters}
use Rattle.c_terminals.specs.Seen.{seen_all}
use Rattle.c_written.proofs.functions.Source.parameters.Given as goal

abbrev pub invariant-declared : goal.invariant-declared
invariant-declared l = record {
  same : all_parameters l.parameters.items
      ++ parameters_from (l.self.next + l.one-index) (bare (seen_all l.front)) (all_declared (drop l.one-index l.declared))
      ≡ parameters_from l.self.next (bare (seen_all l.front)) (all_declared l.declared);
  len : length l.parameters.items ≡ l.one-index;
}
