use Rattle.std.proofs.Common.{◌≡◌, true, take}
use Rattle.std.specs.List.{list_all, list_any}
use Rattle.taskgraph.specs.Cover.{stands_for}
use Rattle.taskgraph.proofs.cover.covers.Given as goal

abbrev pub invariant-later : goal.invariant-later
invariant-later l = list_all (λ d. list_any (λ e. stands_for e d) l.earlier) (take l.depend-index l.later) ≡ true
