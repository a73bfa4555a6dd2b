use Rattle.std.proofs.Common.{◌≡◌, length, map}
use Rattle.c_grammar.specs.Allocations.{skipped}
use Rattle.c_terminals.specs.Ahead.{ahead}
use Rattle.c_terminals.specs.Seen.{seen_terminal}
use Rattle.c_written.proofs.allocations.skipped.Given as goal

abbrev pub invariant-tokens : goal.invariant-tokens
invariant-tokens l =
    skipped (map seen_terminal l.left) (ahead l.ahead) ≡ skipped (map seen_terminal l.fn.tokens) (ahead l.fn.start)

abbrev pub decreases-tokens : goal.decreases-tokens
decreases-tokens l = length l.left
