use Rattle.std.proofs.Common.{◌≡◌, ◌+◌, ◌≤◌, ◌++◌, length}
use Rattle.c_grammar.specs.Clauses.{at_begin}
use Rattle.c_grammar.specs.Privates.{kept, scope}
use Rattle.c_terminals.specs.Names.{seen_names}
use Rattle.c_written.specs.Forms.{all_placed}
use Rattle.c_written.specs.Privates.{with_kept}
use Rattle.c_written.proofs.privates.kept_behind.Given as goal

abbrev pub invariant-tokens : goal.invariant-tokens
invariant-tokens l = record {
  line : with_kept l.kept (all_placed l.rest) ≡
      all_placed l.fn.words ++ kept (scope (seen_names l.names)) at_begin 0 (all_placed l.fn.rest);
  depth : l.kept.place.depth + length l.rest ≤ length l.fn.rest;
}

abbrev pub decreases-tokens : goal.decreases-tokens
decreases-tokens l = length l.rest
