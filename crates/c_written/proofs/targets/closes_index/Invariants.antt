use Rattle.std.proofs.Common.{◌≡◌, ◌+◌, ◌≤◌, length}
use Rattle.c_grammar.specs.Changes.{closes_index}
use Rattle.c_terminals.specs.Ahead.{ahead}
use Rattle.c_written.proofs.targets.closes_index.Given as goal

abbrev pub invariant-tokens : goal.invariant-tokens
invariant-tokens l = record {
  same : closes_index l.open (ahead l.ahead) ≡ closes_index 0 (ahead l.fn.index);
  few : l.open + length (ahead l.ahead) ≤ length (ahead l.fn.index);
}

abbrev pub decreases-tokens : goal.decreases-tokens
decreases-tokens l = length (ahead l.ahead)
