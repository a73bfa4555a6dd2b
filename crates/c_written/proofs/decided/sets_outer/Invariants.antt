use Rattle.std.proofs.Common.{◌≡◌, ◌+◌, ◌≤◌, length}
use Rattle.std.specs.Prelude.{false}
use Rattle.c_grammar.specs.Blocks.{bare}
use Rattle.c_grammar.specs.Conditions.{sets_outer}
use Rattle.c_terminals.specs.Ahead.{ahead}
use Rattle.c_terminals.specs.Names.{seen_names}
use Rattle.c_terminals.specs.Seen.{seen_all}
use Rattle.c_written.specs.Spots.{all_kinds}
use Rattle.c_written.proofs.decided.sets_outer.Given as goal

abbrev pub invariant-tokens : goal.invariant-tokens
invariant-tokens l = record {
  same : sets_outer (seen_names l.names) (all_kinds l.line) l.counts l.depth (ahead l.ahead) ≡
      sets_outer (seen_names l.names) (all_kinds l.line) false 0 (bare (seen_all l.tokens));
  few : l.depth + length (ahead l.ahead) ≤ length (bare (seen_all l.tokens));
}

abbrev pub decreases-tokens : goal.decreases-tokens
decreases-tokens l = length (ahead l.ahead)
