use Rattle.std.proofs.Common.{◌≡◌, ◌++◌}
use Rattle.c_grammar.specs.Blocks.{braces_at}
use Rattle.c_terminals.specs.Seen.{seen, seen_all}
use Rattle.c_loops.proofs.loops.put_braces.Given as goal

abbrev pub invariant-braces : goal.invariant-braces
invariant-braces l =
    seen_all l.done.items ++ braces_at l.left (seen l.fn.token) ≡ seen_all l.fn.done.items ++ braces_at l.fn.count (seen l.fn.token)

abbrev pub decreases-braces : goal.decreases-braces
decreases-braces l = l.left
