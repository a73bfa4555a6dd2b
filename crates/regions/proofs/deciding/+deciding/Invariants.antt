use Rattle.std.proofs.Common.{◌≡◌, false, take}
use Rattle.regions.specs.Deciding.{list_decides}
use Rattle.regions.proofs.deciding.+deciding.Given as goal

abbrev pub invariant-body_decides-all : goal.invariant-body_decides-all
invariant-body_decides-all l = list_decides l.level (take l.s-index l.all) ≡ false
