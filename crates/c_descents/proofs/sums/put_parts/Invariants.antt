use Rattle.std.proofs.Common.{◌≡◌, ◌++◌, length}
use Rattle.c_grammar.specs.Descents.{all_at}
use Rattle.c_terminals.specs.Seen.{seen, seen_all}
use Rattle.c_descents.specs.Parts.{all_parts}
use Rattle.c_descents.proofs.sums.put_parts.Given as goal

abbrev pub invariant-parts : goal.invariant-parts
invariant-parts l =
    seen_all l.done.items ++ all_at (seen l.token) (all_parts l.rest)
    ≡ seen_all l.fn.done.items ++ all_at (seen l.fn.token) (all_parts l.fn.parts)

abbrev pub decreases-parts : goal.decreases-parts
decreases-parts l = length l.rest
