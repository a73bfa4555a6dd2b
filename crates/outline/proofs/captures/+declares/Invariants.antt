use Rattle.std.proofs.Common.{◌≡◌, false, take}
use Rattle.std.specs.List.{list_any}
use Rattle.outline.specs.Captures.{stmt_declares}
use Rattle.outline.proofs.captures.+declares.Given as goal

abbrev pub invariant-one_declares-all : goal.invariant-one_declares-all
invariant-one_declares-all l = list_any (stmt_declares l.scalar) (take l.s-index l.all) ≡ false
