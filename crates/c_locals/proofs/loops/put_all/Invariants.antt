use Rattle.std.proofs.Common.{◌≡◌, ◌++◌, length}
use Rattle.c_terminals.specs.Seen.{seen_all}
use Rattle.c_locals.specs.Loops.{all_with}
use Rattle.c_locals.proofs.loops.put_all.Given as goal

abbrev pub invariant-tokens : goal.invariant-tokens
invariant-tokens l =
    seen_all l.done.items ++ all_with l.name l.number (seen_all l.rest)
    ≡ seen_all l.fn.done.items ++ all_with l.fn.name l.fn.number (seen_all l.fn.tokens)

abbrev pub decreases-tokens : goal.decreases-tokens
decreases-tokens l = length l.rest
