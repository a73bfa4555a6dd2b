use Rattle.std.proofs.Common.{◌≡◌, ◌+◌, ◌≤◌, length, map}
use Rattle.std.specs.Prelude.{false}
use Rattle.c_grammar.specs.Presence.{orders}
use Rattle.c_written.specs.Spots.{all_kinds}
use Rattle.c_written.proofs.presence.orders.Given as goal

abbrev pub invariant-tokens : goal.invariant-tokens
invariant-tokens l = record {
  same : orders (map (λ x. x.now) l.names) l.depth l.depend l.listed (all_kinds l.rest)
      ≡ orders (map (λ x. x.now) l.names) 0 false false (all_kinds l.tokens);
  few : l.depth + length l.rest ≤ length l.tokens;
}

abbrev pub decreases-tokens : goal.decreases-tokens
decreases-tokens l = length l.rest
