use Rattle.std.proofs.Common.{◌≡◌, ◌+◌, [], length}
use Rattle.c_grammar.specs.Initial.{list_initial}
use Rattle.c_terminals.specs.Ahead.{ahead}
use Rattle.c_terminals.specs.Seen.{seen_all}
use Rattle.c_written.proofs.initial.list_initial.Given as goal

abbrev pub invariant-numbers : goal.invariant-numbers
invariant-numbers l = record {
  same : list_initial l.name l.length l.cell (seen_all l.sets.items) (ahead l.ahead)
      ≡ list_initial l.name l.length 0 [] (ahead l.fn.start);
  len : l.len ≡ l.cell + l.cell + 3;
}

abbrev pub decreases-numbers : goal.decreases-numbers
decreases-numbers l = length (ahead l.ahead)
