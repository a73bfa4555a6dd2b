use Rattle.std.proofs.Common.{◌≡◌, length}
use Rattle.c_grammar.specs.Blocks.{bare}
use Rattle.c_grammar.specs.Moves.{Starts, begin, is_moved}
use Rattle.c_terminals.specs.Ahead.{ahead}
use Rattle.c_terminals.specs.Seen.{seen_all}
use Rattle.c_written.specs.Moves.{seen_before, seen_stand}
use Rattle.c_written.proofs.moves.is_moved.Given as goal

abbrev pub invariant-tokens : goal.invariant-tokens
invariant-tokens l =
    is_moved l.name (seen_before l.before) (seen_stand l.stand) (ahead l.ahead)
    ≡ is_moved l.name Starts begin (bare (seen_all l.tokens))

abbrev pub decreases-tokens : goal.decreases-tokens
decreases-tokens l = length (ahead l.ahead)
