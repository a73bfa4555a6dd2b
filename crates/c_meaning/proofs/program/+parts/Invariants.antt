use Rattle.std.proofs.Common.{◌≡◌, true, take}
use Rattle.std.specs.List.{list_all}
use Rattle.c_meaning.specs.Same.{same_part}
use Rattle.c_meaning.proofs.program.+parts.Given as goal

abbrev pub invariant-parts_are_same-parts : goal.invariant-parts_are_same-parts
invariant-parts_are_same-parts l = list_all same_part (take l.part-index l.parts) ≡ true
