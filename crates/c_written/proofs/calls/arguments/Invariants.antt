use Rattle.std.proofs.Common.{◌≡◌, ◌+◌, ◌≤◌, [], length, map}
use Rattle.c_grammar.specs.Functions.{arguments}
use Rattle.c_terminals.specs.Ahead.{ahead}
use Rattle.c_terminals.specs.Seen.{seen_all}
use Rattle.c_written.proofs.calls.arguments.Given as goal

abbrev pub invariant-tokens : goal.invariant-tokens
invariant-tokens l = record {
  same : arguments l.depth (seen_all l.now.items) (map (λ v. seen_all v.items) l.list.items) l.len (ahead l.ahead)
      ≡ arguments 0 [] [] 0 (ahead l.fn.start);
  few : l.len + length (ahead l.ahead) ≤ length (ahead l.fn.start);
  deep : l.depth ≤ l.len;
}

abbrev pub decreases-tokens : goal.decreases-tokens
decreases-tokens l = length (ahead l.ahead)
