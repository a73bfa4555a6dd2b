use Rattle.std.proofs.Common.{◌≡◌, ◌+◌, ◌≤◌, length}
use Rattle.c_grammar.specs.Blocks.{bare}
use Rattle.c_grammar.specs.Shared.{region_of, shares}
use Rattle.c_terminals.specs.Ahead.{ahead}
use Rattle.c_terminals.specs.Seen.{seen_all}
use Rattle.c_written.specs.Shared.{seen_region}
use Rattle.c_written.specs.Spots.{all_kinds}
use Rattle.c_written.proofs.shared.shares.Given as goal

abbrev pub invariant-tokens : goal.invariant-tokens
invariant-tokens l = record {
  same : shares (all_kinds l.line) (seen_region l.region) l.depth (ahead l.ahead)
      ≡ shares (all_kinds l.line) (region_of (all_kinds l.line)) 0 (bare (seen_all l.tokens));
  few : l.depth + length (ahead l.ahead) ≤ length (bare (seen_all l.tokens));
}

abbrev pub decreases-tokens : goal.decreases-tokens
decreases-tokens l = length (ahead l.ahead)
