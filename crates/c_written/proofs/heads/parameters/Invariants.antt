use Rattle.std.proofs.Common.{◌≡◌, ◌+◌, ◌≤◌, [], length}
use Rattle.c_grammar.specs.FunctionHeads.{Begins, parameters}
use Rattle.c_terminals.specs.Ahead.{ahead}
use Rattle.c_written.specs.Functions.{all_declared, seen_head}
use Rattle.c_written.proofs.heads.parameters.Given as goal

abbrev pub invariant-tokens : goal.invariant-tokens
invariant-tokens l = record {
  same : parameters (seen_head l.head) (all_declared l.declared.items) l.len (ahead l.ahead)
      ≡ parameters Begins [] 0 (ahead l.fn.start);
  few : l.len + length (ahead l.ahead) ≤ length (ahead l.fn.start);
}

abbrev pub decreases-tokens : goal.decreases-tokens
decreases-tokens l = length (ahead l.ahead)
