use Rattle.std.proofs.Common.{◌≡◌, ◌+◌, ◌≤◌, length}
use Rattle.c_grammar.specs.Updates.{Outside, commuting}
use Rattle.c_terminals.specs.Seen.{seen_all}
use Rattle.c_written.specs.Updates.{depth_of, with_updates}
use Rattle.c_written.proofs.updates.commuting.Given as goal

abbrev pub invariant-tokens : goal.invariant-tokens
invariant-tokens l = record {
  same : with_updates l.updates (seen_all l.rest) ≡ commuting Outside (seen_all l.fn.tokens);
  few : depth_of l.updates + length l.rest ≤ length l.fn.tokens;
}

abbrev pub decreases-tokens : goal.decreases-tokens
decreases-tokens l = length l.rest
