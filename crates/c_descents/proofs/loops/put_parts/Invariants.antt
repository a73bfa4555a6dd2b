use Rattle.std.proofs.Common.{◌≡◌, ◌++◌, length}
use Rattle.c_grammar.specs.Descents.{parts_of}
use Rattle.c_terminals.specs.Seen.{seen_all}
use Rattle.c_descents.specs.Parts.{all_parts}
use Rattle.c_descents.proofs.loops.put_parts.Given as goal

abbrev pub invariant-tokens : goal.invariant-tokens
invariant-tokens l =
    all_parts l.done.items ++ parts_of (seen_all l.rest) ≡ all_parts l.fn.done.items ++ parts_of (seen_all l.fn.tokens)

abbrev pub decreases-tokens : goal.decreases-tokens
decreases-tokens l = length l.rest
