use Rattle.std.proofs.Common.{◌≡◌, ◌+◌, ◌++◌, drop, length, map}
use Rattle.c_grammar.specs.Functions.{puts_from}
use Rattle.c_written.specs.Functions.{puts_of}
use Rattle.c_written.proofs.functions.Source.puts.Given as goal

abbrev pub invariant-names : goal.invariant-names
invariant-names l = record {
  same : puts_of l.puts ++ puts_from (l.self.next + l.name-index) (map (λ x. x.now) (drop l.name-index l.names))
      ≡ puts_from l.self.next (map (λ x. x.now) l.names);
  len : length l.puts.list.items ≡ l.name-index;
}
