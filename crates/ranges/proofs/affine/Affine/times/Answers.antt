use Rattle.std.proofs.Common.{◌∙◌}
use Rattle.ranges.proofs.AffineParts.{product_made, product_made_right}
use Rattle.ranges.proofs.StrideCases.{if_some}
use Rattle.ranges.proofs.affine.Affine.times.Goals as goal

pub returns-clause-left : goal.returns-clause-left
returns-clause-left c =
    if_some c.up_to.result _ _ c.up_to.ensures (λ a h.
    product_made c.args.last c.args.self c.args.other a (h.0 ∙ c.in_ok-first.ensures.1) (h.1 ∙ c.in_ok-slope.ensures.1)
    c.requires h.2)

pub returns-clause-right : goal.returns-clause-right
returns-clause-right c =
    if_some c.up_to.result _ _ c.up_to.ensures (λ a h.
    product_made_right c.args.last c.args.self c.args.other a (h.0 ∙ c.in_ok-first.ensures.1) (h.1 ∙ c.in_ok-slope.ensures.1)
    c.requires h.2)
