use Rattle.std.proofs.Common.{◌≡◌, ◌+◌, ◌≤◌, length}
use Rattle.std.specs.Prelude.{false}
use Rattle.c_grammar.specs.Shared.{fits}
use Rattle.c_written.specs.Spots.{all_kinds}
use Rattle.c_written.proofs.parted.fits.Given as goal

abbrev pub invariant-tokens : goal.invariant-tokens
invariant-tokens l = record {
  same : fits l.name (all_kinds l.bounds) l.depth l.map (all_kinds l.rest)
      ≡ fits l.name (all_kinds l.bounds) 0 false (all_kinds l.tokens);
  few : l.depth + length l.rest ≤ length l.tokens;
}

abbrev pub decreases-tokens : goal.decreases-tokens
decreases-tokens l = length l.rest
