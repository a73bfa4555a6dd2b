use Rattle.std.proofs.Common.{◌≡◌, false}
use Rattle.c_ints.specs.Ints.{is_last_return, max_value}
use Rattle.c_terminals.specs.Ahead.{ahead}
use Rattle.c_ints.proofs.scopes.is_last_return.Given as goal

abbrev pub invariant-tokens : goal.invariant-tokens
invariant-tokens l =
    is_last_return l.left l.named (ahead l.ahead) ≡ is_last_return max_value false (ahead l.start)

abbrev pub decreases-tokens : goal.decreases-tokens
decreases-tokens l = l.left
