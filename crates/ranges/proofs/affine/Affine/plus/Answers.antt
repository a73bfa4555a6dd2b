use Rattle.std.proofs.Common.{◌∙◌}
use Rattle.ranges.proofs.AffineParts.{sum_made}
use Rattle.ranges.proofs.StrideCases.{if_some}
use Rattle.ranges.proofs.affine.Affine.plus.Goals as goal

pub returns : goal.returns
returns c =
    if_some c.up_to.result _ _ c.up_to.ensures (λ a h.
    sum_made c.args.last c.args.self c.args.other a (h.0 ∙ c.in_ok-first.ensures.1) (h.1 ∙ c.in_ok-slope.ensures.1) h.2)
