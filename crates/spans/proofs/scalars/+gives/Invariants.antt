use Rattle.std.proofs.Common.{◌≡◌, drop}
use Rattle.std.specs.List.{list_any}
use Rattle.base.specs.ScalarUse.{list_assigned}
use Rattle.spans.specs.Asked.{asks}
use Rattle.spans.proofs.scalars.+gives.Given as goal

abbrev pub invariant-some_give-loop-s : goal.invariant-some_give-loop-s
invariant-some_give-loop-s l =
    list_any (λ x. asks l.asked x l.body) (list_assigned (drop l.s-index l.all))
    ≡ list_any (λ x. asks l.asked x l.body) (list_assigned l.all)
