use Rattle.std.proofs.Common.{◌≡◌, false, take}
use Rattle.std.specs.List.{list_any}
use Rattle.taskgraph.specs.Cover.{stands_for}
use Rattle.taskgraph.proofs.cover.is_covered.Given as goal

abbrev pub invariant-others : goal.invariant-others
invariant-others l = list_any (λ e. stands_for e l.depend) (take l.other-index l.others) ≡ false
