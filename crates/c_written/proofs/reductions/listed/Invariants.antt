use Rattle.std.proofs.Common.{◌≡◌, ◌+◌, ◌≤◌, [], length, map}
use Rattle.c_grammar.specs.Updates.{AtName, listed}
use Rattle.c_written.specs.Reductions.{seen_slot}
use Rattle.c_written.specs.Regions.{seen_operation}
use Rattle.c_written.specs.Spots.{all_kinds}
use Rattle.c_written.proofs.reductions.listed.Given as goal

abbrev pub invariant-tokens : goal.invariant-tokens
invariant-tokens l = record {
  same : listed (seen_operation l.op) (map (λ x. x.now) l.names.items) l.len (seen_slot l.slot) (all_kinds l.rest)
      ≡ listed (seen_operation l.op) [] 4 AtName (all_kinds l.tokens);
  few : l.len + length l.rest ≤ 4 + length l.tokens;
}

abbrev pub decreases-tokens : goal.decreases-tokens
decreases-tokens l = length l.rest
