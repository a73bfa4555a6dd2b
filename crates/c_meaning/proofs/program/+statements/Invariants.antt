use Rattle.std.proofs.Common.{◌≡◌, true, take}
use Rattle.std.specs.List.{list_all}
use Rattle.c_meaning.specs.Same.{same_stmt}
use Rattle.c_meaning.proofs.program.+statements.Given as goal

abbrev pub invariant-body_is_same-all : goal.invariant-body_is_same-all
invariant-body_is_same-all l = list_all same_stmt (take l.s-index l.all) ≡ true
