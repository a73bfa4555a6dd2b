use Rattle.std.proofs.Common.{◌≡◌, ◌++◌, map, take}
use Rattle.c_grammar.specs.Blocks.{at}
use Rattle.c_temporaries.specs.Parts.{seen_parts}
use Rattle.c_terminals.specs.Seen.{seen, seen_all}
use Rattle.c_temporaries.proofs.temporaries.put_parts.Given as goal

abbrev pub invariant-parts : goal.invariant-parts
invariant-parts l =
    seen_all l.done.items ≡ seen_all l.initial.done.items ++ map (at (seen l.token)) (seen_parts (take l.part-index l.value))
