use Rattle.std.proofs.Common.{◌≡◌, length}
use Rattle.c_grammar.specs.Moves.{Starts, begin, moved}
use Rattle.c_terminals.specs.Seen.{seen_all}
use Rattle.c_written.specs.Moves.{with_moves}
use Rattle.c_written.proofs.moves.moved.Given as goal

abbrev pub invariant-tokens : goal.invariant-tokens
invariant-tokens l = with_moves l.name l.moves (seen_all l.rest) ≡ moved l.name Starts begin (seen_all l.fn.tokens)

abbrev pub decreases-tokens : goal.decreases-tokens
decreases-tokens l = length l.rest
