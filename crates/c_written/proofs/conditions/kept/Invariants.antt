use Rattle.std.proofs.Common.{◌≡◌, ◌+◌, ◌≤◌, length}
use Rattle.c_grammar.specs.Conditions.{kept}
use Rattle.c_written.specs.Forms.{all_placed}
use Rattle.c_written.specs.Ifs.{seen_heading, with_kept}
use Rattle.c_written.proofs.conditions.kept.Given as goal

abbrev pub invariant-tokens : goal.invariant-tokens
invariant-tokens l = record {
  line : with_kept l.line (all_placed l.rest) ≡ kept (seen_heading l.heading) 0 0 (all_placed l.fn.tokens);
  depth : l.line.depth + length l.rest ≤ length l.fn.tokens;
}

abbrev pub decreases-tokens : goal.decreases-tokens
decreases-tokens l = length l.rest
