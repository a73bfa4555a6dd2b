use Rattle.std.proofs.Common.{◌≡◌, ◌+◌, ◌≤◌, length}
use Rattle.std.specs.Prelude.{false}
use Rattle.c_grammar.specs.Shared.{is_listed}
use Rattle.c_written.specs.Spots.{all_kinds}
use Rattle.c_written.proofs.shared.is_listed.Given as goal

abbrev pub invariant-tokens : goal.invariant-tokens
invariant-tokens l = record {
  same : is_listed l.name l.depth l.map (all_kinds l.rest) ≡ is_listed l.name 0 false (all_kinds l.tokens);
  few : l.depth + length l.rest ≤ length l.tokens;
}

abbrev pub decreases-tokens : goal.decreases-tokens
decreases-tokens l = length l.rest
