use Rattle.std.proofs.Common.{◌≡◌, ◌+◌, ◌≤◌, length}
use Rattle.c_grammar.specs.Blocks.{bare}
use Rattle.c_grammar.specs.Presence.{uses}
use Rattle.c_terminals.specs.Ahead.{ahead}
use Rattle.c_terminals.specs.Seen.{seen_all}
use Rattle.c_written.proofs.used.uses.Given as goal

abbrev pub invariant-tokens : goal.invariant-tokens
invariant-tokens l = record {
  same : uses l.name l.depth (ahead l.ahead) ≡ uses l.name 0 (bare (seen_all l.tokens));
  few : l.depth + length (ahead l.ahead) ≤ length (bare (seen_all l.tokens));
}

abbrev pub decreases-tokens : goal.decreases-tokens
decreases-tokens l = length (ahead l.ahead)
