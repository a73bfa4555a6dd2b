use Rattle.std.proofs.Common.{◌≡◌, false, take}
use Rattle.std.specs.List.{list_any}
use Rattle.base.specs.Items.{stmt_uses}
use Rattle.outline.proofs.uses.+uses.Given as goal

abbrev pub invariant-in_all-all : goal.invariant-in_all-all
invariant-in_all-all l = list_any (stmt_uses l.array) (take l.s-index l.all) ≡ false
