use Rattle.std.proofs.Common.{ap, ◌∙◌}
use Rattle.base.specs.Accepted.{is_host, is_target}
use Rattle.mapwalk.specs.Sides.{shown_by}
use Rattle.mapwalk.proofs.RegionCauses.{neither, other_none}
use Rattle.mapwalk.proofs.ShownItems.{shown_of}
use Rattle.mapwalk.proofs.steps.run_region.Goals as goal

pub returns-in-Begin-clause-cause : goal.returns-in-Begin-clause-cause
returns-in-Begin-clause-cause c entries w e t =
    let is = (shown_of entries c.args.item.now w e).kind in
    let kinds = neither c.args.item.now.kind c.in-Begin.is in
    other_none w (shown_by c.args.host.now c.args.device.now) (ap is_target is ∙ kinds.0) (ap is_host is ∙ kinds.1)
