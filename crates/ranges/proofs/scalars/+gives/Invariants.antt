use Rattle.std.proofs.Common.{◌≡◌, drop}
use Rattle.std.specs.List.{list_any}
use Rattle.base.specs.ScalarUse.{list_assigned, list_needs}
use Rattle.ranges.proofs.scalars.+gives.Given as goal

abbrev pub invariant-all_give-loop-s : goal.invariant-all_give-loop-s
invariant-all_give-loop-s l =
    list_any (λ x. list_needs x l.body) (list_assigned (drop l.s-index l.all))
    ≡ list_any (λ x. list_needs x l.body) (list_assigned l.all)
