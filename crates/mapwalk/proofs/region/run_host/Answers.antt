use Rattle.std.proofs.Common.{Option, refl, ◌∙◌, subst}
use Rattle.ranges.specs.declared.cells.Footprint.{Footprint}
use Rattle.mapwalk.specs.Regions.{AreTouches, IsFootprintOf}
use Rattle.mapwalk.specs.Sides.{shown_by}
use Rattle.mapwalk.proofs.RegionEffects.{host_effect}
use Rattle.mapwalk.proofs.ShownItems.{if_none, shown_of}
use Rattle.mapwalk.proofs.region.run_host.Goals as goal

pub returns-then-is_none-clause-current : goal.returns-then-is_none-clause-current
returns-then-is_none-clause-current c entries w e t =
    let touches : AreTouches w c.in-Some.found = subst (λ (o : Option Footprint). IsFootprintOf w o) c.in-Some.is t in
    if_none c.host_cause-cause.result
    (host_effect w c.in-Some.found (shown_by c.args.host.now c.args.device.now) (shown_by c.run_on.new.own c.run_on.new.other)
    ((shown_of entries c.args.item.now w e).kind ∙ c.requires.kind) touches
    c.run_on.ensures.own c.run_on.ensures.other)

pub returns-then-is_none-clause-cause : goal.returns-then-is_none-clause-cause
returns-then-is_none-clause-cause c entries w e t =
    let is = shown_of entries c.args.item.now w e in
    c.host_cause-cause.ensures w (shown_by c.args.host.now c.args.device.now) (is.kind ∙ c.requires.kind) refl
    (subst (λ (o : Option Footprint). IsFootprintOf w o) c.in-Some.is t)

pub returns-else-is_none-clause-cause : goal.returns-else-is_none-clause-cause
returns-else-is_none-clause-cause c entries w e t =
    let is = shown_of entries c.args.item.now w e in
    c.host_cause-cause.ensures w (shown_by c.args.host.now c.args.device.now) (is.kind ∙ c.requires.kind) refl
    (subst (λ (o : Option Footprint). IsFootprintOf w o) c.in-Some.is t)
