use Rattle.std.proofs.Common.{◌≡◌, ◌+◌, ◌≤◌, length}
use Rattle.c_grammar.specs.Blocks.{bare}
use Rattle.c_grammar.specs.Moves.{Starts}
use Rattle.c_grammar.specs.Privates.{sets}
use Rattle.c_terminals.specs.Ahead.{ahead}
use Rattle.c_terminals.specs.Seen.{seen_all}
use Rattle.c_written.specs.Moves.{seen_before}
use Rattle.c_written.proofs.noted.sets.Given as goal

abbrev pub invariant-tokens : goal.invariant-tokens
invariant-tokens l = record {
  same : sets l.name (seen_before l.before) l.depth (ahead l.ahead) ≡ sets l.name Starts 0 (bare (seen_all l.tokens));
  few : l.depth + length (ahead l.ahead) ≤ length (bare (seen_all l.tokens));
}

abbrev pub decreases-tokens : goal.decreases-tokens
decreases-tokens l = length (ahead l.ahead)
