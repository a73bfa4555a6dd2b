use Rattle.std.proofs.Common.{◌≡◌, false, take}
use Rattle.std.specs.List.{list_any}
use Rattle.base.specs.Machine.{match_depends}
use Rattle.base.proofs.depend.match_some.Given as goal

abbrev pub invariant-depends : goal.invariant-depends
invariant-depends l = list_any (λ d. list_any (match_depends d) l.others) (take l.depend-index l.depends) ≡ false
