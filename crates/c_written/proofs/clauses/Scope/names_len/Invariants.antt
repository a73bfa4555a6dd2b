use Rattle.std.proofs.Common.{◌≡◌, ◌+◌, ◌≤◌, length}
use Rattle.c_grammar.specs.Clauses.{names_len}
use Rattle.c_written.specs.Clauses.{seen_scope}
use Rattle.c_written.specs.Forms.{all_placed}
use Rattle.c_written.proofs.clauses.Scope.names_len.Given as goal

abbrev pub invariant-names : goal.invariant-names
invariant-names l = record {
  same : names_len (seen_scope l.self) l.scalar l.count (all_placed l.rest) ≡
      names_len (seen_scope l.self) l.scalar 1 (all_placed l.fn.rest);
  few : l.count + length l.rest ≤ 1 + length l.fn.rest;
}

abbrev pub decreases-names : goal.decreases-names
decreases-names l = length l.rest
