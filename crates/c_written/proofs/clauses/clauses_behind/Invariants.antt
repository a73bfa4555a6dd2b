use Rattle.std.proofs.Common.{◌≡◌, ◌+◌, ◌≤◌, ◌++◌, length}
use Rattle.c_grammar.specs.Clauses.{at_begin, clauses_from}
use Rattle.c_written.specs.Clauses.{seen_scope, with_clauses}
use Rattle.c_written.specs.Forms.{all_placed}
use Rattle.c_written.proofs.clauses.clauses_behind.Given as goal

abbrev pub invariant-tokens : goal.invariant-tokens
invariant-tokens l = record {
  line : with_clauses l.clauses (all_placed l.rest) ≡
      all_placed l.fn.words ++ clauses_from (seen_scope l.scope) at_begin 0 (all_placed l.fn.rest);
  depth : l.clauses.place.depth + length l.rest ≤ length l.fn.rest;
}

abbrev pub decreases-tokens : goal.decreases-tokens
decreases-tokens l = length l.rest
