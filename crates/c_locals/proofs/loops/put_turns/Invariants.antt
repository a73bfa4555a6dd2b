use Rattle.std.proofs.Common.{◌≡◌, ◌++◌, length}
use Rattle.c_grammar.specs.Locals.{turns}
use Rattle.c_terminals.specs.Seen.{seen, seen_all}
use Rattle.c_locals.proofs.loops.put_turns.Given as goal

abbrev pub invariant-turns : goal.invariant-turns
invariant-turns l =
    seen_all l.done.items ++ turns (seen l.token) l.name (seen_all l.tokens) l.rest
    ≡ seen_all l.fn.done.items ++ turns (seen l.fn.token) l.fn.name (seen_all l.fn.tokens) l.fn.numbers

abbrev pub decreases-turns : goal.decreases-turns
decreases-turns l = length l.rest
