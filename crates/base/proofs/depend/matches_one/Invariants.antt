use Rattle.std.proofs.Common.{◌≡◌, false, take}
use Rattle.std.specs.List.{list_any}
use Rattle.base.specs.Machine.{match_depends}
use Rattle.base.proofs.depend.matches_one.Given as goal

abbrev pub invariant-others : goal.invariant-others
invariant-others l = list_any (match_depends l.depend) (take l.other-index l.others) ≡ false
