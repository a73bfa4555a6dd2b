use Rattle.std.proofs.Common.{◌≡◌, ◌++◌, length}
use Rattle.c_terminals.specs.Seen.{seen_all}
use Rattle.c_descents.specs.Loops.{upward_steps}
use Rattle.c_descents.proofs.loops.put_steps.Given as goal

abbrev pub invariant-tokens : goal.invariant-tokens
invariant-tokens l =
    seen_all l.done.items ++ upward_steps (seen_all l.rest)
    ≡ seen_all l.fn.done.items ++ upward_steps (seen_all l.fn.tokens)

abbrev pub decreases-tokens : goal.decreases-tokens
decreases-tokens l = length l.rest
