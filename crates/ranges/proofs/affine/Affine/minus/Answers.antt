use Rattle.ranges.proofs.AffineParts.{difference_made}
use Rattle.ranges.proofs.affine.Affine.minus.Goals as goal

pub returns : goal.returns
returns c last =
    difference_made last c.args.self c.args.other _ c.in_ok-checked_sub.ensures.1 c.in_ok-checked_sub.ensures.0
    c.in_ok-checked_sub-2.ensures.1 c.in_ok-checked_sub-2.ensures.0
