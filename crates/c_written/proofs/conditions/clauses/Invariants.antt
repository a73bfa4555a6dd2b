use Rattle.std.proofs.Common.{◌≡◌, ◌+◌, ◌≤◌, length}
use Rattle.c_grammar.specs.Conditions.{clauses}
use Rattle.c_written.specs.Ifs.{seen_heading, with_clauses}
use Rattle.c_written.specs.Spots.{all_kinds}
use Rattle.c_written.proofs.conditions.clauses.Given as goal

abbrev pub invariant-tokens : goal.invariant-tokens
invariant-tokens l = record {
  line : with_clauses l.listing (all_kinds l.rest) ≡ clauses (seen_heading l.heading) 0 0 (all_kinds l.tokens);
  depth : l.listing.depth + length l.rest ≤ length l.tokens;
}

abbrev pub decreases-tokens : goal.decreases-tokens
decreases-tokens l = length l.rest
